-- What the next step does to the bus.
use Rattle.std.proofs.Common.{◌≡◌, ◌≢◌, ℕ, ◌+◌, ◌≤◌, ◌<◌, ◌^◌, Bool, true, false, cond, [], ◌∷◌, ◌++◌, Option, Some, None, length, sym, ap, ap₂, ◌∙◌, subst, refl, arith}
use Rattle.std.specs.Prelude.{slice_get, IfSome, Result, Ok, Err, IfOk}
use Rattle.std.specs.declared.alloc.AllocError.{AllocError}
use Rattle.std.specs.Option.{is_some}
use Rattle.std.proofs.lemmas.Bool.{false_from_ne_true}
use Rattle.mil_word.specs.declared.Line.{Line}
use Rattle.mil_message.specs.declared.messages.Message.{Message}
use Rattle.mil_message.specs.World.{other_line}
use Rattle.mil_line.specs.Plans.{faults_of}
use Rattle.mil_bus.specs.declared.talks.Talk.{Talk}
use Rattle.mil_bus.specs.Exchange.{BusState, exchanged, talk_of, now_of, talk_start, held_until, played}
use Rattle.frame_code.specs.declared.Op.{Op}
use Rattle.frame_code.specs.declared.Op.TheVariants.{Halt, Send, Alt, SetGap, Loop, Again, Leave, Jump, Test, JumpFalse, Call, Return, Begin, Pace}
use Rattle.frame_code.specs.Table.{act, sends, stuck}
use Rattle.controller_host.specs.Values.{InsertionValue}
use Rattle.bc_machine.specs.declared.upcoming.Upcoming.{Upcoming}
use Rattle.bc_machine.specs.MadeMessages.{own}
use Rattle.bc_machine.specs.Hosting.{next_insertion, sent_form}
use Rattle.bc_machine.specs.Controller.{ready, BusRun}
use Rattle.bc_machine.specs.Running.{MachineState, world_in, bus_run, frames_point, most_inserted, turn_of, moved_by, waiting, stops_at, stepped, clock_in}
use Rattle.bc_machine.specs.Moves.{line_of}
use Rattle.bc_machine.specs.MayStep.{IsAble}
use Rattle.bc_machine.specs.UnderWay.{IsQuiet}
use Rattle.bc_machine.specs.Coming.{IsAbout, IsAboutInserted, ComesInserted, IsComing, IsStill, Comes, bus_before, held_by}
use Rattle.bc_machine.proofs.Acts.{ready_talks, ready_clock}
use Rattle.bc_machine.proofs.Queued.{more_made}
use Rattle.bc_machine.proofs.Rows.{waits_stop, waits_none, row_of, to_row, to_inserted}
use Rattle.bc_machine.proofs.Told.{sent_to, drained_here, told_by}

module _ (m : MachineState) (same : m.point.number ≡ length m.made) where
  -- an inserted message is sent
  pub inserted_comes : (x : InsertionValue) (u : Upcoming) → now_of u.bus < 2 ^ 60 → waiting m ≡ Some x → IsAboutInserted m x u → IsComing m u
  unfolding talk_of exchanged
  inserted_comes x u low e h =
      let is = to_inserted m x e in
      let plain : m.taken ≡ m.taken + 0 = omega arith in
      record {
        bus = h.bus ∙ sym (ap (bus_before m) e);
        clock = low;
        start = ap (λ (t : Talk). t.start) h.talk ∙ sym (ap₂ (λ (v : BusState) g. talk_start v g) h.bus h.gap);
        talks = ap (λ (z : MachineState). z.point.state.talks) is ∙ ap₂ (λ (t : Talk) ts. t ∷ ts) (sym h.talk) (ready_talks m.placed (length m.made + 1) m.point.state);
        number = ap (λ (z : MachineState). z.point.number) is;
        inserted = h.inserted ∙ sym (ap is_some e);
        taken = ap (λ (z : MachineState). z.taken) is ∙ plain ∙ sym (ap (λ (b : Bool). m.taken + cond b 0 1) h.inserted);
      }

  -- a message of the script
  about_comes : (line : Line) (message : Message) (u : Upcoming) → clock_in m ≤ 2 ^ 48 → IsAbout m line message u → waiting m ≡ None → stepped m ≡ sent_to m same line message (bus_run m) → IsComing m u
  unfolding talk_of exchanged
  about_comes line message u low h none is =
      let b = ready m.placed (length m.made + 1) m.point.state in
      let now : now_of u.bus ≡ clock_in m = ap now_of h.bus ∙ ready_clock m.placed (length m.made + 1) m.point.state in
      let long = more_made m.made (own message) in
      let number : (stepped m).point.number ≡ length (m.made ++ own message ∷ []) = ap (λ (z : MachineState). z.point.number) is in
      record {
        bus = h.bus ∙ sym (ap (bus_before m) none);
        clock = omega (arith, now, low);
        start = ap (λ (t : Talk). t.start) h.talk ∙ sym (ap₂ (λ (v : BusState) g. talk_start v g) h.bus h.gap);
        talks = ap (λ (z : MachineState). z.point.state.talks) is ∙ ap₂ (λ (t : Talk) ts. t ∷ ts) (sym h.talk) (ready_talks m.placed (length m.made + 1) m.point.state);
        number = number ∙ (omega (arith, long, same));
        inserted = h.inserted ∙ sym (ap is_some none);
        taken = ap (λ (z : MachineState). z.taken) is ∙ sym (ap (λ (b : Bool). m.taken + cond b 0 1) h.inserted);
      }

  -- the row of an operation that sends a message which is there
  sent_row : (o : Op) (on : Line → Line) (x : Line × Message) → next_insertion m.placed (most_inserted m.code) m.made ≡ None → waiting m ≡ None → (e : slice_get m.code.operations m.at.place ≡ Some o)
      → act (world_in m) (Some o) m.code m.at (frames_point m) ≡ sends (world_in m) (Some x) on m.at (frames_point m) → stepped m ≡ sent_to m same (on x.0) x.1 (bus_run m)
  sent_row o on x next none e row_is =
      sym (to_row m o e (moved_by (act (world_in m) (Some o) m.code m.at (frames_point m)) m) none refl)
      ∙ ap (λ t. moved_by t m) row_is
      ∙ ap (λ (v : BusRun). sent_to m same (on x.0) x.1 v) (drained_here m same next)

  comes_by : (o : Op) (on : Line → Line) (found : Option (Line × Message)) (u : Upcoming) → IsAble m → next_insertion m.placed (most_inserted m.code) m.made ≡ None → waiting m ≡ None → slice_get m.code.operations m.at.place ≡ Some o
      → act (world_in m) (Some o) m.code m.at (frames_point m) ≡ sends (world_in m) found on m.at (frames_point m)
      → IfSome found (λ x. IsAbout m (on x.0) x.1 u) → IsComing m u
  comes_by o on None u able next none e row_is h = absurd (able.going (ap (λ v. act (world_in m) v m.code m.at (frames_point m)) e ∙ row_is))
  comes_by o on (Some x) u able next none e row_is h = about_comes (on x.0) x.1 u able.clock h none (sent_row o on x next none e row_is)

  pub send_comes : (i : ℕ) (u : Upcoming) → IsAble m → next_insertion m.placed (most_inserted m.code) m.made ≡ None → slice_get m.code.operations m.at.place ≡ Some (Send i)
      → IfSome (slice_get m.code.messages i) (λ x. IsAbout m (line_of false m.at.line x.0) x.1 u) → IsComing m u
  send_comes i u able next e h = comes_by (Send i) (λ l. l) (slice_get m.code.messages i) u able next (waits_stop m (Send i) e refl ∙ next) e refl h

  pub alt_comes : (i : ℕ) (u : Upcoming) → IsAble m → next_insertion m.placed (most_inserted m.code) m.made ≡ None → slice_get m.code.operations m.at.place ≡ Some (Alt i)
      → IfSome (slice_get m.code.messages i) (λ x. IsAbout m (line_of true m.at.line x.0) x.1 u) → IsComing m u
  alt_comes i u able next e h = comes_by (Alt i) (λ l. other_line m.at.line) (slice_get m.code.messages i) u able next (waits_stop m (Alt i) e refl ∙ next) e refl h

  -- an operation that sends nothing
  still_is : (n : MachineState) → stepped m ≡ n → IsQuiet m n → IsStill m
  still_is n is q = record { state = ap (λ (z : MachineState). played z.point.state) is ∙ q.state; number = ap (λ (z : MachineState). z.point.number) is ∙ q.number }

  abbrev after : Op → MachineState
  after o = moved_by (act (world_in m) (Some o) m.code m.at (frames_point m)) m

  nothing : {X : Type 0} → 0 < 0 → X
  nothing h = absurd (omega (arith, h))

  never : {X : Type 0} → false ≡ true → X
  never h = absurd cc

  quiet_row : (o : Op) → slice_get m.code.operations m.at.place ≡ Some o → act (world_in m) (Some o) m.code m.at (frames_point m) ≢ stuck → waiting m ≡ None → (stops_at (Some o) ≡ true → ⊥) → IsQuiet m (after o)
  quiet_row Halt e going none clear = absurd (clear refl)
  quiet_row (Send i) e going none clear = absurd (clear refl)
  quiet_row (Alt i) e going none clear = absurd (clear refl)
  quiet_row (SetGap t) e going none clear = told_by m same (Some (SetGap t)) e going none never nothing
  quiet_row (Loop n) e going none clear = told_by m same (Some (Loop n)) e going none never nothing
  quiet_row (Again i) e going none clear = told_by m same (Some (Again i)) e going none never nothing
  quiet_row (Leave i) e going none clear = told_by m same (Some (Leave i)) e going none never nothing
  quiet_row (Jump i) e going none clear = told_by m same (Some (Jump i)) e going none never nothing
  quiet_row (Test k) e going none clear = told_by m same (Some (Test k)) e going none never nothing
  quiet_row (JumpFalse i) e going none clear = told_by m same (Some (JumpFalse i)) e going none never nothing
  quiet_row (Call r) e going none clear = told_by m same (Some (Call r)) e going none never nothing
  quiet_row Return e going none clear = told_by m same (Some Return) e going none never nothing
  quiet_row Begin e going none clear = told_by m same (Some Begin) e going none never nothing
  quiet_row (Pace h) e going none clear = told_by m same (Some (Pace h)) e going none never nothing

  pub still : (o : Op) → slice_get m.code.operations m.at.place ≡ Some o → turn_of m ≢ stuck → (stops_at (Some o) ≡ true → ⊥) → IsStill m
  still o e going clear =
      let none = waits_none m o e (false_from_ne_true (stops_at (Some o)) clear) in
      still_is (after o) (sym (to_row m o e (after o) none refl)) (quiet_row o e (λ h. going (row_of m o e ∙ h)) none clear)

  -- at the end, where none waits
  pub halt_still : slice_get m.code.operations m.at.place ≡ Some Halt → next_insertion m.placed (most_inserted m.code) m.made ≡ None → IsStill m
  halt_still e next =
      let none = waits_stop m Halt e refl ∙ next in
      let is : m ≡ stepped m = to_row m Halt e m none refl in
      record { state = ap (λ (z : MachineState). played z.point.state) (sym is); number = ap (λ (z : MachineState). z.point.number) (sym is) }

  -- what was prepared of the queue, at an operation that stops
  pub of_inserted : (o : Op) → slice_get m.code.operations m.at.place ≡ Some o → stops_at (Some o) ≡ true → (n : Option InsertionValue) → next_insertion m.placed (most_inserted m.code) m.made ≡ n
      → (u : Upcoming) → now_of u.bus < 2 ^ 60 → ComesInserted m n (Some u) → IsComing m u
  of_inserted o e stops None next u low h = absurd h
  of_inserted o e stops (Some x) next u low h = inserted_comes x u low (waits_stop m o e stops ∙ next) h

  none_inserted : (n : Option InsertionValue) → ComesInserted m n None → n ≡ None
  none_inserted None h = refl
  none_inserted (Some x) h = absurd h

  -- at the end
  pub halt_comes : (v : Option Upcoming) → slice_get m.code.operations m.at.place ≡ Some Halt → ComesInserted m (next_insertion m.placed (most_inserted m.code) m.made) v → IfSome v (λ u. now_of u.bus < 2 ^ 60) → Comes m v
  halt_comes None e h low = halt_still e (none_inserted _ h)
  halt_comes (Some u) e h low = of_inserted Halt e refl _ refl u low h

  pub halt_answers : (r : Result (Option Upcoming) AllocError) → slice_get m.code.operations m.at.place ≡ Some Halt → IfOk r (λ v. ComesInserted m (next_insertion m.placed (most_inserted m.code) m.made) v)
      → IfOk r (λ v. IfSome v (λ u. now_of u.bus < 2 ^ 60)) → IfOk r (λ v. Comes m v)
  halt_answers (Ok v) e h low = halt_comes v e h low
  halt_answers (Err f) e h low = tt

  pub own_comes : (alternates : Bool) (i : ℕ) (u : Upcoming) → IsAble m → ComesInserted m (next_insertion m.placed (most_inserted m.code) m.made) None
      → slice_get m.code.operations m.at.place ≡ Some (cond alternates (Alt i) (Send i)) → IfSome (slice_get m.code.messages i) (λ x. IsAbout m (line_of alternates m.at.line x.0) x.1 u) → IsComing m u
  own_comes true i u able none e h = alt_comes i u able (none_inserted _ none) e h
  own_comes false i u able none e h = send_comes i u able (none_inserted _ none) e h

  pub first_comes : (alternates : Bool) (i : ℕ) (u : Upcoming) → slice_get m.code.operations m.at.place ≡ Some (cond alternates (Alt i) (Send i)) → now_of u.bus < 2 ^ 60
      → ComesInserted m (next_insertion m.placed (most_inserted m.code) m.made) (Some u) → IsComing m u
  first_comes true i u e low h = of_inserted (Alt i) e refl _ refl u low h
  first_comes false i u e low h = of_inserted (Send i) e refl _ refl u low h

-- what was prepared for the message of an index is that message as it is about to be sent
pub about_is : (m : MachineState) (i : ℕ) (alternates : Bool) (x : Line × Message) (line : Line) (form : Message) (r : Result Upcoming AllocError)
    → slice_get m.code.messages i ≡ Some x → line ≡ line_of alternates m.at.line x.0 → form ≡ sent_form m.placed m.made x.1
    → IfOk r (λ u. u.bus ≡ bus_before m None) → IfOk r (λ u. u.gap ≡ m.point.gap) → IfOk r (λ u. u.talk ≡ talk_of (bus_before m None) line form m.point.gap (faults_of (length m.made + 1) m.plan)) → IfOk r (λ u. u.inserted ≡ false)
    → IfOk r (λ u. IfSome (slice_get m.code.messages i) (λ y. IsAbout m (line_of alternates m.at.line y.0) y.1 u))
about_is m i alternates x line form (Err e) there on words bus gap talk ours = tt
about_is m i alternates x line form (Ok u) there on words bus gap talk ours =
    rw there (record { bus = bus; gap = gap; talk = talk ∙ ap₂ (λ (l : Line) (f : Message). talk_of (bus_before m None) l f m.point.gap (faults_of (length m.made + 1) m.plan)) on words; inserted = ours })

-- and so for an inserted one
pub about_inserted : (m : MachineState) (x : InsertionValue) (n : Option InsertionValue) (u : Upcoming) (tick : ℕ) (line : Line) (form : Message) → n ≡ Some x → tick ≡ x.tick → line ≡ x.line → form ≡ x.message
    → u.bus ≡ held_until tick (bus_before m None) → u.gap ≡ m.point.gap → u.talk ≡ talk_of (held_until tick (bus_before m None)) line form m.point.gap (faults_of (length m.made + 1) m.plan) → u.inserted ≡ true
    → ComesInserted m n (Some u)
about_inserted m x n u tick line form is at on words bus gap talk marked =
    subst (λ v. ComesInserted m v (Some u)) (sym is) (record {
      bus = bus ∙ ap (λ t. held_until t (bus_before m None)) at;
      gap = gap;
      talk = talk ∙ ap (λ t. talk_of (held_until t (bus_before m None)) line form m.point.gap (faults_of (length m.made + 1) m.plan)) at
          ∙ ap₂ (λ (l : Line) (f : Message). talk_of (held_until x.tick (bus_before m None)) l f m.point.gap (faults_of (length m.made + 1) m.plan)) on words;
      inserted = marked;
    })

-- no other operation stops
pub not_stops : (o : Op) → (o ≡ Halt → ⊥) → ((i : ℕ) → o ≡ Send i → ⊥) → ((i : ℕ) → o ≡ Alt i → ⊥) → stops_at (Some o) ≡ true → ⊥
not_stops Halt h s a e = h refl
not_stops (Send i) h s a e = s i refl
not_stops (Alt i) h s a e = a i refl
not_stops (SetGap t) h s a e = cc
not_stops (Loop n) h s a e = cc
not_stops (Again i) h s a e = cc
not_stops (Leave i) h s a e = cc
not_stops (Jump i) h s a e = cc
not_stops (Test k) h s a e = cc
not_stops (JumpFalse i) h s a e = cc
not_stops (Call n) h s a e = cc
not_stops Return h s a e = cc
not_stops Begin h s a e = cc
not_stops (Pace p) h s a e = cc

pub held_soon : (tick : Option ℕ) (b : BusState) → IfSome tick (λ t. t ≤ 2 ^ 47) → now_of b ≤ 2 ^ 48 → now_of (held_by tick b) < 2 ^ 60
held_soon None b low now = omega (arith, now)
held_soon (Some t) b low now = omega (arith, now, low)
