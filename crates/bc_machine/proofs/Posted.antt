-- Faults and actions of messages to come leave no trace.
use Rattle.std.proofs.Common.{◌≡◌, ℕ, zero, suc, ◌+◌, ◌-◌, ◌≤◌, Bool, eqb, ne_eqb, ltb, cond, List, [], ◌∷◌, ◌++◌, length, drop, refl, sym, ap, ap₂, ◌∙◌, subst, arith}
use Rattle.std.specs.Prelude.{slice_get, Option, Some, None, Result, Ok, Err, OnOk, OnErr}
use Rattle.std.specs.List.{cons_option}
use Rattle.std.specs.Option.{option_map}
use Rattle.std.proofs.lemmas.List.{append-nil}
use Rattle.std.proofs.lemmas.List.Elements.{filter-append, filter_map-append}
use Rattle.mil_word.specs.declared.Line.{Line}
use Rattle.mil_message.specs.declared.messages.Message.{Message}
use Rattle.mil_message.specs.declared.forms.Form.{Form}
use Rattle.mil_message.specs.declared.outcome_test.OutcomeTest.{OutcomeTest}
use Rattle.mil_message.specs.World.{World, Point, other_line, sent, asks}
use Rattle.mil_line.specs.declared.faults.Fault.{Fault}
use Rattle.mil_line.specs.Plans.{Planned, faults_of, fault_of}
use Rattle.mil_bus.specs.Exchange.{BusState, exchanged, talk_of, held_until}
use Rattle.mil_bus.specs.declared.outcomes.Outcome.{Outcome}
use Rattle.frame_code.specs.declared.Op.{Op}
use Rattle.frame_code.specs.declared.Op.TheVariants.{Halt, Send, Alt, SetGap, Loop, Again, Leave, Jump, Test, JumpFalse, Call, Return, Begin, Pace}
use Rattle.frame_code.specs.Table.{Code, Registers, Running, Turn, goes_on, halted, stuck, act, sends, counted, turns, leaves, step, then_run, run, calls, comes_back, keeps_pace}
use Rattle.frame_code.specs.Routines.{routine_at}
use Rattle.frame_load.specs.Budget.{cost_of, one_period}
use Rattle.frame_load.specs.Runs.{pays, paid}
use Rattle.controller_host.specs.Values.{InsertionValue}
use Rattle.controller_host.specs.Sources.{sourced}
use Rattle.bc_machine.specs.declared.placed.Placed.{Placed}
use Rattle.bc_machine.specs.MadeMessages.{MadeMessage, own, inserted}
use Rattle.bc_machine.specs.Hosting.{placed_up_to, next_insertion, first_of, inserted_in, last_set, source_since, sent_form}
use Rattle.bc_machine.specs.Agendas.{inserts_among}
use Rattle.bc_machine.specs.Controller.{Setting, BusRun, setting_of, placed_at, world_of, all_acted, ready, with_insertion, with_own, own_talk, outcome_in, inserted_next, inserting, inserting_many, drained}
use Rattle.bc_machine.specs.Running.{MachineState, setting, most_inserted, frames_point, turn_of}
use Rattle.bc_machine.specs.UnderWay.{IsUnderWay, IsReached}
use Rattle.bc_machine.specs.Planning.{with_plan, next_number, with_fault, ArePlannedAlikeSoFar}
use Rattle.bc_machine.specs.Posting.{with_placed, AreAlikeSoFar}
use Rattle.bc_machine.proofs.Acts.{ready_same}
use Rattle.bc_machine.proofs.Queued.{more_made}
use Rattle.bc_machine.proofs.Inserting.{long_many, short_one, short_many}
use Rattle.bc_machine.proofs.Numbers.{run_rises}
use Rattle.bc_machine.proofs.Reached.{bus_is, is_halt}

abbrev Place : Type 0
Place = Running BusRun Outcome

-- ---- two plans and two lists of actions that are alike up to a message

module _ (plan other : List Planned) (ps qs : List Placed) (most top : ℕ) (faults : (n : ℕ) → 1 ≤ n → n ≤ top → faults_of n other ≡ faults_of n plan) (same : (n : ℕ) → 1 ≤ n → n ≤ top → placed_at n qs ≡ placed_at n ps) where
  abbrev w : World BusRun Outcome
  w = world_of plan ps most

  abbrev v : World BusRun Outcome
  v = world_of other qs most

  abbrev s : Setting
  s = setting_of plan ps most

  abbrev t : Setting
  t = setting_of other qs most

  up_to_alike : (n : ℕ) → n ≤ top → placed_up_to n qs ≡ placed_up_to n ps
  unfolding placed_up_to
  up_to_alike zero le = refl
  up_to_alike (suc n) le = ap₂ (λ (xs ys : List Placed). xs ++ ys) (up_to_alike n (omega (arith, le))) (same (suc n) (omega arith) le)

  next_alike : (made : List MadeMessage) → length made + 1 ≤ top → next_insertion qs most made ≡ next_insertion ps most made
  next_alike made le =
      ap (λ xs. cond (ltb (inserted_in made) most) (first_of (drop (inserted_in made) (inserts_among xs))) None) (up_to_alike (length made + 1) le)

  form_alike : (made : List MadeMessage) (form : Form) → length made + 1 ≤ top → sent_form qs made form ≡ sent_form ps made form
  form_alike made form le =
      ap (λ xs. sourced (λ d place. option_map (source_since d place made) (last_set d place xs)) form) (up_to_alike (length made + 1) le)

  ready_alike : (n : ℕ) (b : BusState) → 1 ≤ n → n ≤ top → ready qs n b ≡ ready ps n b
  ready_alike n b low le = ready_same n qs ps b (same n low le)

  insertion_alike : (gap : ℕ) (x : InsertionValue) (r : BusRun) → length r.made + 1 ≤ top → with_insertion t gap x r ≡ with_insertion s gap x r
  insertion_alike gap x r le =
      let n = length r.made + 1 in
      ap₂ (λ (b : BusState) fs. record { bus = held_until r.bus.least_start (exchanged (held_until x.tick b) x.line x.message gap fs); made = r.made ++ inserted ∷ [] })
      (ready_alike n r.bus (omega arith) le) (faults n (omega arith) le)

  next_with : (gap : ℕ) (o : Option InsertionValue) (r : BusRun) → length r.made + 1 ≤ top → inserted_next t gap o r ≡ inserted_next s gap o r
  next_with gap None r le = refl
  next_with gap (Some x) r le = insertion_alike gap x r le

  inserting_alike : (gap : ℕ) (r : BusRun) → length r.made + 1 ≤ top → inserting t gap r ≡ inserting s gap r
  inserting_alike gap r le = ap (λ o. inserted_next t gap o r) (next_alike r.made le) ∙ next_with gap (next_insertion ps most r.made) r le

  many_alike : (n gap : ℕ) (r : BusRun) → length (inserting_many s n gap r).made + 1 ≤ top → inserting_many t n gap r ≡ inserting_many s n gap r
  many_alike zero gap r le = refl
  many_alike (suc n) gap r le =
      let long = long_many plan ps most (suc n) gap r in
      ap (inserting_many t n gap) (inserting_alike gap r (omega (arith, long, le))) ∙ many_alike n gap (inserting s gap r) le

  drained_alike : (gap : ℕ) (r : BusRun) → length (drained s gap r).made + 1 ≤ top → drained t gap r ≡ drained s gap r
  unfolding drained
  drained_alike gap r le = many_alike (most - inserted_in r.made) gap r le

  -- where each of them is a message
  many_real : (n gap : ℕ) (r : BusRun) → length (inserting_many s n gap r).made ≡ length r.made + n → length r.made + n ≤ top → inserting_many t n gap r ≡ inserting_many s n gap r
  many_real zero gap r e le = refl
  many_real (suc n) gap r e le =
      let first = short_one plan ps most gap r in
      let rest = short_many plan ps most n gap (inserting s gap r) in
      ap (inserting_many t n gap) (inserting_alike gap r (omega (arith, le)))
      ∙ many_real n gap (inserting s gap r) (omega (arith, e, first, rest)) (omega (arith, e, first, rest, le))

  -- a point behind a message of the script, as this bus, form and faults have it
  abbrev after_own : Line → Message → Point BusRun Outcome → BusState → Form → List Fault → Point BusRun Outcome
  after_own line m p b f fs = record {
    state = record { bus = exchanged b line f p.gap fs; made = (drained s p.gap p.state).made ++ own m ∷ [] };
    number = p.number + 1;
    gap = p.gap;
    last = Some (outcome_in (talk_of b line f p.gap fs));
  }

  sent_alike : (line : Line) (m : Message) (p : Point BusRun Outcome) → length (sent w line m p).state.made ≤ top → sent v line m p ≡ sent w line m p
  sent_alike line m p le =
      let d = drained s p.gap p.state in
      let n = length d.made + 1 in
      let long = more_made d.made (own m) in
      let low : n ≤ top = omega (arith, le, long) in
      ap (λ (u : BusRun). record { state = with_own t line m p.gap u; number = p.number + 1; gap = p.gap; last = Some (outcome_in (own_talk t line m p.gap u)) }) (drained_alike p.gap p.state low)
      ∙ ap₂ (λ (b : BusState) (f : Form). after_own line m p b f (faults_of n other)) (ready_alike n d.bus (omega arith) low) (form_alike d.made m low)
      ∙ ap (after_own line m p (ready ps n d.bus) (sent_form ps d.made m)) (faults n (omega arith) low)

  asks_alike : (k : OutcomeTest) (p : Point BusRun Outcome) → asks v k p ≡ asks w k p
  asks_alike k p = by_case p.last
    where
      by_case : (last : Option Outcome) → asks v k (record { state = p.state; number = p.number; gap = p.gap; last = last }) ≡ asks w k (record { state = p.state; number = p.number; gap = p.gap; last = last })
      by_case None = refl
      by_case (Some o) = refl

  sends_alike : (o : Option (Line × Message)) (on : Line → Line) (r : Registers) (p : Point BusRun Outcome) (x : Place) → sends w o on r p ≡ goes_on x → length x.point.state.made ≤ top
      → sends v o on r p ≡ goes_on x
  sends_alike None on r p x e le = e
  sends_alike (Some m) on r p x e le =
      let is : record { at = record r { place = r.place + 1; line = on m.0 }; point = sent w (on m.0) m.1 p } ≡ x = cc in
      let made : length (sent w (on m.0) m.1 p).state.made ≡ length x.point.state.made = ap (λ (y : Place). length y.point.state.made) is in
      ap (λ (q : Point BusRun Outcome). goes_on (record { at = record r { place = r.place + 1; line = on m.0 }; point = q })) (sent_alike (on m.0) m.1 p (omega (arith, made, le))) ∙ e

  counted_alike : (k : ℕ) (ns : List ℕ) (i : ℕ) (r : Registers) (p : Point BusRun Outcome) → counted v k ns i r p ≡ counted w k ns i r p
  counted_alike zero ns i r p = refl
  counted_alike (suc k) ns i r p = refl

  turns_alike : (ns : List ℕ) (i : ℕ) (r : Registers) (p : Point BusRun Outcome) → turns v ns i r p ≡ turns w ns i r p
  turns_alike [] i r p = refl
  turns_alike (n ∷ ns) i r p = counted_alike (n - 1) ns i r p

  leaves_alike : (ns : List ℕ) (i : ℕ) (r : Registers) (p : Point BusRun Outcome) → leaves v ns i r p ≡ leaves w ns i r p
  leaves_alike [] i r p = refl
  leaves_alike (n ∷ ns) i r p = refl

  calls_alike : (o : Option ℕ) (r : Registers) (p : Point BusRun Outcome) → calls v o r p ≡ calls w o r p
  calls_alike None r p = refl
  calls_alike (Some i) r p = refl

  backs_alike : (is : List ℕ) (r : Registers) (p : Point BusRun Outcome) → comes_back v is r p ≡ comes_back w is r p
  backs_alike [] r p = refl
  backs_alike (i ∷ is) r p = refl

  paces_alike : (bs : List ℕ) (h : ℕ) (r : Registers) (p : Point BusRun Outcome) → keeps_pace v bs h r p ≡ keeps_pace w bs h r p
  paces_alike [] h r p = refl
  paces_alike (b ∷ bs) h r p = refl

  act_alike : (o : Option Op) (code : Code) (r : Registers) (p : Point BusRun Outcome) (x : Place) → act w o code r p ≡ goes_on x → length x.point.state.made ≤ top → act v o code r p ≡ goes_on x
  act_alike None code r p x e le = e
  act_alike (Some Halt) code r p x e le = e
  act_alike (Some (Send m)) code r p x e le = sends_alike (slice_get code.messages m) (λ l. l) r p x e le
  act_alike (Some (Alt m)) code r p x e le = sends_alike (slice_get code.messages m) (λ l. other_line r.line) r p x e le
  act_alike (Some (SetGap t)) code r p x e le = e
  act_alike (Some (Loop n)) code r p x e le = e
  act_alike (Some (Again i)) code r p x e le = turns_alike r.counters i r p ∙ e
  act_alike (Some (Leave i)) code r p x e le = leaves_alike r.counters i r p ∙ e
  act_alike (Some (Jump i)) code r p x e le = e
  act_alike (Some (Test k)) code r p x e le = ap (λ (b : Bool). goes_on (record { at = record r { place = r.place + 1; flag = b }; point = p })) (asks_alike k p) ∙ e
  act_alike (Some (JumpFalse i)) code r p x e le = e
  act_alike (Some (Call n)) code r p x e le = calls_alike (routine_at code.operations n) r p ∙ e
  act_alike (Some Return) code r p x e le = backs_alike r.returns r p ∙ e
  act_alike (Some Begin) code r p x e le = e
  act_alike (Some (Pace h)) code r p x e le = paces_alike r.frames h r p ∙ e

  sends_halt : (o : Option (Line × Message)) (on : Line → Line) (r : Registers) (p : Point BusRun Outcome) → sends w o on r p ≡ halted → sends v o on r p ≡ halted
  sends_halt None on r p e = e
  sends_halt (Some m) on r p e = absurd cc

  act_halts : (o : Option Op) (code : Code) (r : Registers) (p : Point BusRun Outcome) → act w o code r p ≡ halted → act v o code r p ≡ halted
  act_halts None code r p e = e
  act_halts (Some Halt) code r p e = e
  act_halts (Some (Send m)) code r p e = sends_halt (slice_get code.messages m) (λ l. l) r p e
  act_halts (Some (Alt m)) code r p e = sends_halt (slice_get code.messages m) (λ l. other_line r.line) r p e
  act_halts (Some (SetGap t)) code r p e = e
  act_halts (Some (Loop n)) code r p e = e
  act_halts (Some (Again i)) code r p e = turns_alike r.counters i r p ∙ e
  act_halts (Some (Leave i)) code r p e = leaves_alike r.counters i r p ∙ e
  act_halts (Some (Jump i)) code r p e = e
  act_halts (Some (Test k)) code r p e = absurd cc
  act_halts (Some (JumpFalse i)) code r p e = e
  act_halts (Some (Call n)) code r p e = calls_alike (routine_at code.operations n) r p ∙ e
  act_halts (Some Return) code r p e = backs_alike r.returns r p ∙ e
  act_halts (Some Begin) code r p e = absurd cc
  act_halts (Some (Pace h)) code r p e = paces_alike r.frames h r p ∙ e

  run_alike : (code : Code) (n : ℕ) (r : Registers) (p : Point BusRun Outcome) (x : Place) → run w n code r p ≡ goes_on x → length x.point.state.made ≤ top → run v n code r p ≡ goes_on x
  run_alike code zero r p x e le = e
  run_alike code (suc n) r p x e le = by_turn (step w code r p) refl e (λ y h. run_alike code n y.at y.point x h le)
    where
      by_turn : (t : Turn Place) → step w code r p ≡ t → then_run w t (record { at = r; point = p }) (run w n code) ≡ goes_on x
          → ((y : Place) → run w n code y.at y.point ≡ goes_on x → run v n code y.at y.point ≡ goes_on x)
          → then_run v (step v code r p) (record { at = r; point = p }) (run v n code) ≡ goes_on x
      by_turn (goes_on y) s h more =
          let rest = run_rises plan ps most code n y.at y.point x h in
          ap (λ (t : Turn Place). then_run v t (record { at = r; point = p }) (run v n code)) (act_alike (slice_get code.operations r.place) code r p y s (omega (arith, rest, le))) ∙ more y h
      by_turn halted s h more =
          ap (λ (t : Turn Place). then_run v t (record { at = r; point = p }) (run v n code)) (act_halts (slice_get code.operations r.place) code r p s) ∙ h
      by_turn stuck s h more = absurd cc

  -- and what it pays on the way
  paid_alike : (cost : Op → ℕ) (code : Code) (n : ℕ) (r : Registers) (p : Point BusRun Outcome) (x : Place) → run w n code r p ≡ goes_on x → length x.point.state.made ≤ top
      → paid v cost n code r p ≡ paid w cost n code r p
  paid_alike cost code zero r p x e le = refl
  paid_alike cost code (suc n) r p x e le = by_turn (step w code r p) refl e (λ y h. paid_alike cost code n y.at y.point x h le)
    where
      by_turn : (t : Turn Place) → step w code r p ≡ t → then_run w t (record { at = r; point = p }) (run w n code) ≡ goes_on x
          → ((y : Place) → run w n code y.at y.point ≡ goes_on x → paid v cost n code y.at y.point ≡ paid w cost n code y.at y.point)
          → pays v (step v code r p) (cost_of cost (slice_get code.operations r.place)) (paid v cost n code) ≡ pays w t (cost_of cost (slice_get code.operations r.place)) (paid w cost n code)
      by_turn (goes_on y) s h more =
          let rest = run_rises plan ps most code n y.at y.point x h in
          ap (λ (t : Turn Place). pays v t (cost_of cost (slice_get code.operations r.place)) (paid v cost n code)) (act_alike (slice_get code.operations r.place) code r p y s (omega (arith, rest, le)))
          ∙ ap (λ k. cost_of cost (slice_get code.operations r.place) + k) (more y h)
      by_turn halted s h more =
          ap (λ (t : Turn Place). pays v t (cost_of cost (slice_get code.operations r.place)) (paid v cost n code)) (act_halts (slice_get code.operations r.place) code r p s)
      by_turn stuck s h more = absurd cc

-- ---- as a controller meets them

-- with other faults and actions for messages to come
abbrev under : MachineState → List Planned → List Placed → MachineState
under m plan placed = record m { plan = plan; placed = placed }

reached_alike : (m : MachineState) (plan : List Planned) (placed : List Placed) (r : IsReached m) → m.point.number ≡ length m.made → ArePlannedAlikeSoFar m plan → AreAlikeSoFar m placed → IsReached (under m plan placed)
reached_alike m plan placed r number faults alike =
    let made : length m.made ≡ length (inserting_many (setting m) r.count r.point.gap r.point.state).made = ap (λ (v : BusRun). length v.made) (bus_is m r) in
    let low : length r.point.state.made + r.count ≤ m.point.number = omega (arith, r.sent, number) in
    record {
      point = r.point;
      count = r.count;
      run = run_alike m.plan plan m.placed placed (most_inserted m.code) m.point.number faults alike m.code m.taken _ _ (record { at = m.at; point = r.point }) r.run (omega (arith, low));
      here = r.here ∙ ap (λ (v : BusRun). record r.point { state = v })
          (sym (many_real m.plan plan m.placed placed (most_inserted m.code) m.point.number faults alike r.count r.point.gap r.point.state (omega (arith, made, r.sent)) low));
      sent = r.sent;
      idle = r.idle;
    }

under_way_alike : (m : MachineState) (plan : List Planned) (placed : List Placed) → IsUnderWay m → ArePlannedAlikeSoFar m plan → AreAlikeSoFar m placed → IsUnderWay (under m plan placed)
under_way_alike m plan placed u faults alike =
    let r = u.reached in
    let low : length r.point.state.made ≤ m.point.number = omega (arith, r.sent, u.number) in
    let same = paid_alike m.plan plan m.placed placed (most_inserted m.code) m.point.number faults alike one_period m.code m.taken _ _ (record { at = m.at; point = r.point }) r.run low in
    record {
      loadable = u.loadable;
      within = u.within;
      short = u.short;
      reached = reached_alike m plan placed r u.number faults alike;
      steps = u.steps;
      number = u.number;
      messages = u.messages;
      inserts = u.inserts;
      clock = omega (arith, u.clock, same);
      begun = u.begun;
    }

pub free : (m : MachineState) (placed : List Placed) → IsUnderWay m → AreAlikeSoFar m placed → IsUnderWay (with_placed m placed)
free m placed u alike = under_way_alike m m.plan placed u (λ n low high. refl) alike

pub free_of_faults : (m : MachineState) (plan : List Planned) → IsUnderWay m → ArePlannedAlikeSoFar m plan → IsUnderWay (with_plan m plan)
free_of_faults m plan u faults = under_way_alike m plan m.placed u faults (λ n low high. refl)

-- room for more actions plays no part
pub roomy : (m : MachineState) (k : ℕ) → IsUnderWay m → IsUnderWay (record m { capacity = k })
roomy m k u = record {
  loadable = u.loadable;
  within = u.within;
  short = u.short;
  reached = record { point = u.reached.point; count = u.reached.count; run = u.reached.run; here = u.reached.here; sent = u.reached.sent; idle = u.reached.idle };
  steps = u.steps;
  number = u.number;
  messages = u.messages;
  inserts = u.inserts;
  clock = u.clock;
  begun = u.begun;
}

pub room_under_way : {U F : Type 0} (r : Result U F) (m n : MachineState) (k : ℕ) → IsUnderWay m → OnOk r (n ≡ record m { capacity = k }) → OnErr r (n ≡ m) → IsUnderWay n
room_under_way (Ok u) m n k way made same = subst IsUnderWay (sym made) (roomy m k way)
room_under_way (Err f) m n k way made same = subst IsUnderWay (sym same) way

pub halts_alike : (m : MachineState) (placed : List Placed) → turn_of m ≡ halted → turn_of (with_placed m placed) ≡ halted
halts_alike m placed e =
    let o = slice_get m.code.operations m.at.place in
    let halt = is_halt (world_of m.plan m.placed (most_inserted m.code)) o m.code m.at (frames_point m) e in
    ap (λ v. act (world_of m.plan placed (most_inserted m.code)) v m.code m.at (frames_point m)) halt

pub halts_planned : (m : MachineState) (plan : List Planned) → turn_of m ≡ halted → turn_of (with_plan m plan) ≡ halted
halts_planned m plan e =
    let o = slice_get m.code.operations m.at.place in
    let halt = is_halt (world_of m.plan m.placed (most_inserted m.code)) o m.code m.at (frames_point m) e in
    ap (λ v. act (world_of plan m.placed (most_inserted m.code)) v m.code m.at (frames_point m)) halt

-- an action at the next message is none of those at the messages before
pub alike_added : (m : MachineState) (one : Placed) → one.number ≡ m.point.number + 1 → AreAlikeSoFar m (m.placed ++ one ∷ [])
alike_added m one next n low high =
    filter-append (λ (p : Placed). eqb p.number n) m.placed (one ∷ [])
    ∙ ap (λ (b : Bool). placed_at n m.placed ++ cond b (one ∷ []) []) (ne_eqb one.number n (λ same. omega (arith, same, next, high)))
    ∙ append-nil (placed_at n m.placed)

-- ---- the actions of two lists, one behind the other

acted_both : (ps qs : List Placed) (b : BusState) → all_acted b (ps ++ qs) ≡ all_acted (all_acted b ps) qs
acted_both [] qs b = refl
acted_both (p ∷ ps) qs b = acted_both ps qs _

pub ready_both : (number : ℕ) (ps qs : List Placed) (b : BusState) → ready qs number (ready ps number b) ≡ ready (ps ++ qs) number b
unfolding ready
ready_both number ps qs b =
    sym (ap (all_acted b) (filter-append (λ (p : Placed). eqb p.number number) ps qs) ∙ acted_both (placed_at number ps) (placed_at number qs) b)

pub placed_under_way : {U F : Type 0} (r : Result U F) (m n : MachineState) (one : Placed) → IsUnderWay m → one.number ≡ m.point.number + 1
    → OnOk r (n ≡ with_placed m (m.placed ++ one ∷ [])) → OnErr r (n ≡ m) → IsUnderWay n
placed_under_way (Ok u) m n one way next placed same = subst IsUnderWay (sym placed) (free m (m.placed ++ one ∷ []) way (alike_added m one next))
placed_under_way (Err f) m n one way next placed same = subst IsUnderWay (sym same) way

-- ---- one fault more

-- a fault of the next message is none of those of the messages before
planned_added : (m : MachineState) (fault : Fault) → ArePlannedAlikeSoFar m (m.plan ++ (next_number m, fault) ∷ [])
planned_added m fault n low high =
    filter_map-append (fault_of n) m.plan ((next_number m, fault) ∷ [])
    ∙ ap (λ (b : Bool). faults_of n m.plan ++ cons_option (cond b (Some fault) None) []) (ne_eqb (next_number m) n (λ same. omega (arith, same, low, high)))
    ∙ append-nil (faults_of n m.plan)

pub planned_under_way : {U F : Type 0} (r : Result U F) (m n : MachineState) (fault : Fault) → IsUnderWay m → OnOk r (n ≡ with_fault m fault) → OnErr r (n ≡ m) → IsUnderWay n
planned_under_way (Ok u) m n fault way planned same = subst IsUnderWay (sym planned) (free_of_faults m (m.plan ++ (next_number m, fault) ∷ []) way (planned_added m fault))
planned_under_way (Err f) m n fault way planned same = subst IsUnderWay (sym same) way
