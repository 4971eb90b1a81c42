-- What a message that is sent makes of a controller.
use Rattle.std.proofs.Common.{◌≡◌, ◌≢◌, ⊎_elim, ℕ, ◌+◌, ◌-◌, ◌*◌, ◌<◌, ◌≤◌, ◌^◌, Bool, true, false, cond, eqb, ne_eqb, Option, Some, None, List, [], ◌∷◌, ◌++◌, length, get_or, max, refl, sym, ap, ap₂, ◌∙◌, arith}
use Rattle.std.specs.Prelude.{slice_get}
use Rattle.mil_word.specs.declared.Line.{Line}
use Rattle.mil_message.specs.declared.messages.Message.{Message}
use Rattle.mil_line.specs.Plans.{faults_of}
use Rattle.mil_line.specs.declared.faults.Fault.{Fault}
use Rattle.mil_bus.specs.declared.talks.Talk.{Talk}
use Rattle.mil_bus.specs.declared.outcomes.Outcome.{Outcome}
use Rattle.mil_bus.specs.Exchange.{BusState, exchanged, talk_of, held_until, now_of, clock_of}
use Rattle.ch11_f1.specs.declared.Record.{Record}
use Rattle.mil_monitor.specs.Observed.{observed}
use Rattle.frame_code.specs.Table.{sends, act, stuck}
use Rattle.std.proofs.lemmas.Bool.{cases_lt}
use Rattle.std.proofs.lemmas.Option.{slice_get_past, slice_get_read}
use Rattle.bc_machine.proofs.Rows.{row_of}
use Rattle.frame_code.specs.declared.Op.TheVariants as op
use Rattle.frame_load.specs.Budget.{cost_of, one_period, one_sent}
use Rattle.controller_host.specs.Values.{InsertionValue}
use Rattle.bc_machine.specs.declared.Stepped.TheVariants.{Sent}
use Rattle.bc_machine.specs.MadeMessages.{own, inserted}
use Rattle.bc_machine.specs.Agendas.{AgendaState, with_message}
use Rattle.bc_machine.specs.Hosting.{next_insertion, sent_form}
use Rattle.bc_machine.specs.Controller.{BusRun, ready, own_bus, own_talk, insertion_bus, insertion_talk, outcome_in}
use Rattle.bc_machine.specs.Running.{MachineState, setting, world_in, bus_run, frames_point, most_inserted, turn_of, moved_by, with_inserted, latest_record, answer_of, stops_at, clock_in}
use Rattle.bc_machine.specs.Moves.{line_of}
use Rattle.bc_machine.proofs.Acts.{ready_talks, ready_start}
use Rattle.bc_machine.proofs.Queued.{more_made}
use Rattle.bc_machine.proofs.Told.{sent_to, drained_here}

-- what was read at an index stands there
pub there_is : {A : Type 0} (xs ys : List A) (i : ℕ) (x : A) → ys ≡ xs → x ≡ get_or ys i x → i < length xs → slice_get xs i ≡ Some x
there_is xs ys i x same is low = slice_get_read xs (length xs) i x refl low (is ∙ ap (λ zs. get_or zs i x) same)

module _ (m : MachineState) (same : m.point.number ≡ length m.made) where
  abbrev pub host_of : AgendaState
  host_of = record { placed = m.placed; capacity = m.capacity; made = m.made }

  -- the controller with these parts, one more message of the script sent
  abbrev pub sent_with : Line → AgendaState → BusState → Outcome → MachineState
  sent_with line a bus o = record {
    code = m.code;
    plan = m.plan;
    placed = a.placed;
    capacity = a.capacity;
    begun = m.begun;
    taken = m.taken + 1;
    at = record m.at { place = m.at.place + 1; line = line };
    point = record { state = bus; number = length a.made; gap = m.point.gap; last = Some o };
    made = a.made;
    latest = Some o;
  }

  -- the row of a message that is there, where none waits
  sent_row : (x : Option (Line × Message)) (y : Line × Message) (on : Line → Line) → x ≡ Some y → next_insertion m.placed (most_inserted m.code) m.made ≡ None
      → sent_to m same (on y.0) y.1 (bus_run m) ≡ moved_by (sends (world_in m) x on m.at (frames_point m)) m
  sent_row x y on there none =
      ap (λ (v : BusRun). sent_to m same (on y.0) y.1 v) (sym (drained_here m same none))
      ∙ ap (λ o. moved_by (sends (world_in m) o on m.at (frames_point m)) m) (sym there)

  pub sent_is : (index : ℕ) (y : Line × Message) (on : Line → Line) (line : Line) (form : Message) (a : AgendaState) (met bus : BusState) (o : Outcome)
      → slice_get m.code.messages index ≡ Some y → line ≡ on y.0 → next_insertion m.placed (most_inserted m.code) m.made ≡ None
      → a ≡ with_message host_of (own y.1) → met ≡ ready m.placed (length m.made + 1) m.point.state → form ≡ sent_form m.placed m.made y.1
      → bus ≡ exchanged met line form m.point.gap (faults_of (length m.made + 1) m.plan)
      → o ≡ outcome_in (talk_of met line form m.point.gap (faults_of (length m.made + 1) m.plan))
      → sent_with line a bus o ≡ moved_by (sends (world_in m) (slice_get m.code.messages index) on m.at (frames_point m)) m
  sent_is index y on line form a met bus o there line_is none agenda met_is form_is bus_is outcome =
      let fs = faults_of (length m.made + 1) m.plan in
      let new = m.made ++ own y.1 ∷ [] in
      let b = own_bus (setting m) (on y.0) y.1 m.point.gap (bus_run m) in
      let t = own_talk (setting m) (on y.0) y.1 m.point.gap (bus_run m) in
      let bus_here : bus ≡ b =
      bus_is ∙ ap (λ (v : BusState). exchanged v line form m.point.gap fs) met_is
      ∙ ap₂ (λ (l : Line) (f : Message). exchanged (ready m.placed (length m.made + 1) m.point.state) l f m.point.gap fs) line_is form_is in
      let outcome_here : o ≡ outcome_in t =
      outcome ∙ ap (λ (v : BusState). outcome_in (talk_of v line form m.point.gap fs)) met_is
      ∙ ap₂ (λ (l : Line) (f : Message). outcome_in (talk_of (ready m.placed (length m.made + 1) m.point.state) l f m.point.gap fs)) line_is form_is in
      let long = more_made m.made (own y.1) in
      let latest : Some (outcome_in t) ≡ cond (eqb (length new) (length m.made)) m.latest (Some (outcome_in t)) =
      ap (λ v. cond v m.latest (Some (outcome_in t))) (sym (ne_eqb (length new) (length m.made) (λ e. omega (arith, e, long)))) in
      ap (λ (l : Line). sent_with l a bus o) line_is
      ∙ ap (λ (v : AgendaState). sent_with (on y.0) v bus o) agenda
      ∙ ap₂ (λ (v : BusState) (u : Outcome). sent_with (on y.0) (with_message host_of (own y.1)) v u) bus_here outcome_here
      ∙ ap (λ (u : Option Outcome). record (sent_with (on y.0) (with_message host_of (own y.1)) b (outcome_in t)) { latest = u }) latest
      ∙ sent_row (slice_get m.code.messages index) y on there none

  -- the controller with these parts, one more inserted message sent
  abbrev pub inserted_with : AgendaState → BusState → Outcome → MachineState
  inserted_with a bus o = record {
    code = m.code;
    plan = m.plan;
    placed = a.placed;
    capacity = a.capacity;
    begun = m.begun;
    taken = m.taken;
    at = m.at;
    point = record { state = bus; number = length a.made; gap = m.point.gap; last = m.point.last };
    made = a.made;
    latest = Some o;
  }

  pub inserted_is : (x : InsertionValue) (a : AgendaState) (met after bus : BusState) (o : Outcome)
      → a ≡ with_message host_of inserted → met ≡ held_until x.tick (ready m.placed (length m.made + 1) m.point.state)
      → after ≡ exchanged met x.line x.message m.point.gap (faults_of (length m.made + 1) m.plan)
      → bus ≡ held_until m.point.state.least_start after
      → o ≡ outcome_in (talk_of met x.line x.message m.point.gap (faults_of (length m.made + 1) m.plan))
      → inserted_with a bus o ≡ with_inserted m x
  inserted_is x a met after bus o agenda met_is after_is bus_is outcome =
      let fs = faults_of (length m.made + 1) m.plan in
      let bus_here : bus ≡ insertion_bus (setting m) m.point.gap x (bus_run m) =
      bus_is ∙ ap (held_until m.point.state.least_start) (after_is ∙ ap (λ (v : BusState). exchanged v x.line x.message m.point.gap fs) met_is) in
      let outcome_here : o ≡ outcome_in (insertion_talk (setting m) m.point.gap x (bus_run m)) = outcome ∙ ap (λ (v : BusState). outcome_in (talk_of v x.line x.message m.point.gap fs)) met_is in
      let long : length (m.made ++ inserted ∷ []) ≡ m.point.number + 1 = more_made m.made inserted ∙ (omega (arith, same)) in
      ap (λ (v : AgendaState). inserted_with v bus o) agenda
      ∙ ap₂ (λ (v : BusState) (u : Outcome). inserted_with (with_message host_of inserted) v u) bus_here outcome_here
      ∙ ap (λ (k : ℕ). record (with_inserted m x) { point = record m.point { state = insertion_bus (setting m) m.point.gap x (bus_run m); number = k } }) long

-- the answer of a message of the script is the record of the latest talk
pub answer_is : (bus : BusState) (t : Talk) (talks : List Talk) (r : Record) → bus.talks ≡ t ∷ talks → r ≡ observed t → Sent r ≡ latest_record bus.talks
answer_is bus t talks r is says = ap Sent says ∙ sym (ap latest_record is)

pub latest_talk : (b after : BusState) (line : Line) (message : Message) (gap : ℕ) (faults : List Fault) → after ≡ exchanged b line message gap faults → after.talks ≡ talk_of b line message gap faults ∷ b.talks
unfolding exchanged
latest_talk b after line message gap faults is = ap (λ (v : BusState). v.talks) is

-- now, once an inserted message was sent and the least start is as it was
pub inserted_soon : (tick latest : ℕ) (m : MachineState) (b met after bus : BusState) → tick ≤ latest → b ≡ ready m.placed (length m.made + 1) m.point.state → met ≡ held_until tick b → now_of after ≤ now_of met + 2 ^ 24
    → bus ≡ held_until m.point.state.least_start after → now_of bus ≤ clock_in m + ((latest - clock_in m) + 2 ^ 24)
inserted_soon tick latest m b met after bus low b_is met_is soon bus_is =
    let start = ready_start m.placed (length m.made + 1) m.point.state in
    let talks = ready_talks m.placed (length m.made + 1) m.point.state in
    let met_now : now_of met ≡ max (clock_of m.point.state.start m.point.state.talks) tick =
    ap now_of met_is ∙ ap (λ (v : BusState). max (clock_of v.start v.talks) tick) b_is ∙ ap (λ c. max c tick) (ap₂ clock_of start talks) in
    let now : now_of bus ≡ max (clock_of after.start after.talks) m.point.state.least_start = ap now_of bus_is in
    omega (arith, low, met_now, now, soon)

-- ---- at an operation that sends a message

pub either_stops : (alternates : Bool) (i : ℕ) → stops_at (Some (cond alternates (op.Alt i) (op.Send i))) ≡ true
either_stops true i = refl
either_stops false i = refl

pub either_row : (m : MachineState) (alternates : Bool) (i : ℕ)
    → moved_by (sends (world_in m) (slice_get m.code.messages i) (line_of alternates m.at.line) m.at (frames_point m)) m ≡ moved_by (act (world_in m) (Some (cond alternates (op.Alt i) (op.Send i))) m.code m.at (frames_point m)) m
either_row m true i = refl
either_row m false i = refl

pub either_answer : (alternates : Bool) (i : ℕ) (talks : List Talk) → latest_record talks ≡ answer_of (Some (cond alternates (op.Alt i) (op.Send i))) talks
either_answer true i talks = refl
either_answer false i talks = refl

pub either_ticks : (alternates : Bool) (i : ℕ) → 2 ^ 24 ≤ cost_of one_period (Some (cond alternates (op.Alt i) (op.Send i))) + cost_of one_sent (Some (cond alternates (op.Alt i) (op.Send i))) * 2 ^ 24
either_ticks true i = omega arith
either_ticks false i = omega arith

either_act : (m : MachineState) (alternates : Bool) (i : ℕ)
    → act (world_in m) (Some (cond alternates (op.Alt i) (op.Send i))) m.code m.at (frames_point m) ≡ sends (world_in m) (slice_get m.code.messages i) (line_of alternates m.at.line) m.at (frames_point m)
either_act m true i = refl
either_act m false i = refl

-- the message is there
pub message_there : (m : MachineState) (alternates : Bool) (i : ℕ) → slice_get m.code.operations m.at.place ≡ Some (cond alternates (op.Alt i) (op.Send i)) → turn_of m ≢ stuck → i < length m.code.messages
message_there m alternates i here going =
    ⊎_elim (λ less. less)
    (λ le. absurd (going
    (row_of m (cond alternates (op.Alt i) (op.Send i)) here
    ∙ either_act m alternates i
    ∙ ap (λ o. sends (world_in m) o (line_of alternates m.at.line) m.at (frames_point m)) (slice_get_past m.code.messages i le))))
    (cases_lt i (length m.code.messages))
