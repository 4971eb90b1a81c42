-- Where a controller stands in the run of its code.
use Rattle.std.proofs.Common.{◌≡◌, ◌≢◌, ℕ, zero, suc, ◌+◌, ◌-◌, true, false, cond, Option, Some, None, List, [], ◌∷◌, ◌++◌, refl, sym, ap, ap₂, subst, ◌∙◌, arith}
use Rattle.std.specs.Prelude.{slice_get, count_by}
use Rattle.mil_word.specs.declared.Line.{Line}
use Rattle.mil_message.specs.declared.messages.Message.{Message}
use Rattle.mil_message.specs.World.{World, Point, other_line, sent}
use Rattle.mil_bus.specs.declared.outcomes.Outcome.{Outcome}
use Rattle.frame_code.specs.declared.Op.{Op}
use Rattle.frame_code.specs.declared.Op.TheVariants.{Halt, Send, Alt, SetGap, Loop, Again, Leave, Jump, Test, JumpFalse, Call, Return, Begin, Pace}
use Rattle.frame_code.specs.Table.{Code, Registers, Running, Turn, goes_on, halted, stuck, act, sends, counted, turns, leaves, step, run, start, calls, comes_back, keeps_pace}
use Rattle.frame_code.specs.Routines.{routine_at}
use Rattle.frame_load.specs.Runs.{Reaches}
use Rattle.controller_host.specs.Values.{InsertionValue}
use Rattle.bc_machine.specs.MadeMessages.{inserted}
use Rattle.bc_machine.specs.Hosting.{next_insertion}
use Rattle.bc_machine.specs.Controller.{BusRun, inserting, inserting_many, with_insertion}
use Rattle.bc_machine.specs.Running.{MachineState, setting, world_in, beginning, frames_point, bus_run, is_own, most_inserted, turn_of, moved_by, stops_at, waiting, with_inserted, stepped_with, stepped}
use Rattle.bc_machine.specs.UnderWay.{IsReached}
use Rattle.bc_machine.proofs.Queued.{more_made}
use Rattle.bc_machine.proofs.Inserting.{some_of_cond, own_more, one, last_of_many, sent_settled}
use Rattle.bc_machine.proofs.Numbers.{act_goes}
use Rattle.bc_machine.proofs.Runs.{run_more}

-- ---- ends of a step that the point has no part in

module _ {State Outcome : Type 0} (w : World State Outcome) where
  sends_stuck : (o : Option (Line × Message)) (on : Line → Line) (r : Registers) (p q : Point State Outcome) → sends w o on r p ≡ stuck → sends w o on r q ≡ stuck
  sends_stuck None on r p q e = refl
  sends_stuck (Some m) on r p q e = absurd cc

  counted_stuck : {X : Type 0} (k : ℕ) (ns : List ℕ) (i : ℕ) (r : Registers) (p : Point State Outcome) → counted w k ns i r p ≡ stuck → X
  counted_stuck zero ns i r p e = absurd cc
  counted_stuck (suc k) ns i r p e = absurd cc

  turns_stuck : (ns : List ℕ) (i : ℕ) (r : Registers) (p q : Point State Outcome) → turns w ns i r p ≡ stuck → turns w ns i r q ≡ stuck
  turns_stuck [] i r p q e = refl
  turns_stuck (n ∷ ns) i r p q e = counted_stuck (n - 1) ns i r p e

  leaves_stuck : (ns : List ℕ) (i : ℕ) (r : Registers) (p q : Point State Outcome) → leaves w ns i r p ≡ stuck → leaves w ns i r q ≡ stuck
  leaves_stuck [] i r p q e = refl
  leaves_stuck (n ∷ ns) i r p q e = absurd cc

  calls_stuck : (o : Option ℕ) (r : Registers) (p q : Point State Outcome) → calls w o r p ≡ stuck → calls w o r q ≡ stuck
  calls_stuck None r p q e = refl
  calls_stuck (Some i) r p q e = absurd cc

  backs_stuck : (is : List ℕ) (r : Registers) (p q : Point State Outcome) → comes_back w is r p ≡ stuck → comes_back w is r q ≡ stuck
  backs_stuck [] r p q e = refl
  backs_stuck (i ∷ is) r p q e = absurd cc

  paces_stuck : (bs : List ℕ) (h : ℕ) (r : Registers) (p q : Point State Outcome) → keeps_pace w bs h r p ≡ stuck → keeps_pace w bs h r q ≡ stuck
  paces_stuck [] h r p q e = refl
  paces_stuck (b ∷ bs) h r p q e = absurd cc

  act_stuck : (o : Option Op) (code : Code) (r : Registers) (p q : Point State Outcome) → act w o code r p ≡ stuck → act w o code r q ≡ stuck
  act_stuck None code r p q e = refl
  act_stuck (Some Halt) code r p q e = absurd cc
  act_stuck (Some (Send m)) code r p q e = sends_stuck (slice_get code.messages m) (λ l. l) r p q e
  act_stuck (Some (Alt m)) code r p q e = sends_stuck (slice_get code.messages m) (λ l. other_line r.line) r p q e
  act_stuck (Some (SetGap t)) code r p q e = absurd cc
  act_stuck (Some (Loop n)) code r p q e = absurd cc
  act_stuck (Some (Again i)) code r p q e = turns_stuck r.counters i r p q e
  act_stuck (Some (Leave i)) code r p q e = leaves_stuck r.counters i r p q e
  act_stuck (Some (Jump i)) code r p q e = absurd cc
  act_stuck (Some (Test k)) code r p q e = absurd cc
  act_stuck (Some (JumpFalse i)) code r p q e = absurd cc
  act_stuck (Some (Call n)) code r p q e = calls_stuck (routine_at code.operations n) r p q e
  act_stuck (Some Return) code r p q e = backs_stuck r.returns r p q e
  act_stuck (Some Begin) code r p q e = absurd cc
  act_stuck (Some (Pace h)) code r p q e = paces_stuck r.frames h r p q e

  -- only a Halt halts
  sends_go : {X : Type 0} (o : Option (Line × Message)) (on : Line → Line) (r : Registers) (p : Point State Outcome) → sends w o on r p ≡ halted → X
  sends_go None on r p e = absurd cc
  sends_go (Some m) on r p e = absurd cc

  counted_go : {X : Type 0} (k : ℕ) (ns : List ℕ) (i : ℕ) (r : Registers) (p : Point State Outcome) → counted w k ns i r p ≡ halted → X
  counted_go zero ns i r p e = absurd cc
  counted_go (suc k) ns i r p e = absurd cc

  turns_go : {X : Type 0} (ns : List ℕ) (i : ℕ) (r : Registers) (p : Point State Outcome) → turns w ns i r p ≡ halted → X
  turns_go [] i r p e = absurd cc
  turns_go (n ∷ ns) i r p e = counted_go (n - 1) ns i r p e

  leaves_go : {X : Type 0} (ns : List ℕ) (i : ℕ) (r : Registers) (p : Point State Outcome) → leaves w ns i r p ≡ halted → X
  leaves_go [] i r p e = absurd cc
  leaves_go (n ∷ ns) i r p e = absurd cc

  calls_go : {X : Type 0} (o : Option ℕ) (r : Registers) (p : Point State Outcome) → calls w o r p ≡ halted → X
  calls_go None r p e = absurd cc
  calls_go (Some i) r p e = absurd cc

  backs_go : {X : Type 0} (is : List ℕ) (r : Registers) (p : Point State Outcome) → comes_back w is r p ≡ halted → X
  backs_go [] r p e = absurd cc
  backs_go (i ∷ is) r p e = absurd cc

  paces_go : {X : Type 0} (bs : List ℕ) (h : ℕ) (r : Registers) (p : Point State Outcome) → keeps_pace w bs h r p ≡ halted → X
  paces_go [] h r p e = absurd cc
  paces_go (b ∷ bs) h r p e = absurd cc

  pub is_halt : (o : Option Op) (code : Code) (r : Registers) (p : Point State Outcome) → act w o code r p ≡ halted → o ≡ Some Halt
  is_halt None code r p e = absurd cc
  is_halt (Some Halt) code r p e = refl
  is_halt (Some (Send m)) code r p e = sends_go (slice_get code.messages m) (λ l. l) r p e
  is_halt (Some (Alt m)) code r p e = sends_go (slice_get code.messages m) (λ l. other_line r.line) r p e
  is_halt (Some (SetGap t)) code r p e = absurd cc
  is_halt (Some (Loop n)) code r p e = absurd cc
  is_halt (Some (Again i)) code r p e = turns_go r.counters i r p e
  is_halt (Some (Leave i)) code r p e = leaves_go r.counters i r p e
  is_halt (Some (Jump i)) code r p e = absurd cc
  is_halt (Some (Test k)) code r p e = absurd cc
  is_halt (Some (JumpFalse i)) code r p e = absurd cc
  is_halt (Some (Call n)) code r p e = calls_go (routine_at code.operations n) r p e
  is_halt (Some Return) code r p e = backs_go r.returns r p e
  is_halt (Some Begin) code r p e = absurd cc
  is_halt (Some (Pace h)) code r p e = paces_go r.frames h r p e

-- ---- a controller and its run

-- what waits in front of an operation that stops
pub waits_at : (m : MachineState) (x : InsertionValue) → waiting m ≡ Some x
    → (stops_at (slice_get m.code.operations m.at.place) ≡ true) × (next_insertion m.placed (most_inserted m.code) m.made ≡ Some x)
waits_at m x e = some_of_cond (stops_at (slice_get m.code.operations m.at.place)) (next_insertion m.placed (most_inserted m.code) m.made) x e

module _ (m : MachineState) (r : IsReached m) where
  abbrev pub here : Running BusRun Outcome
  here = record { at = m.at; point = r.point }

  pub bus_is : bus_run m ≡ inserting_many (setting m) r.count r.point.gap r.point.state
  bus_is = ap (λ (p : Point BusRun Outcome). p.state) r.here

  pub own_is : count_by is_own m.made ≡ r.point.number
  own_is = ap (λ (p : Point BusRun Outcome). p.number) r.here

  pub gap_is : m.point.gap ≡ r.point.gap
  gap_is = ap (λ (p : Point BusRun Outcome). p.gap) r.here

  pub last_is : m.point.last ≡ r.point.last
  last_is = ap (λ (p : Point BusRun Outcome). p.last) r.here

  pub reaches : Reaches (world_in m) m.code (beginning m.begun) here
  reaches = (m.taken, r.run)

  -- the row that is next is stuck at the run's point where it is at the controller's
  pub going : step (world_in m) m.code m.at r.point ≢ stuck → turn_of m ≢ stuck
  going goes e = goes (act_stuck (world_in m) (slice_get m.code.operations m.at.place) m.code m.at (frames_point m) r.point e)

  -- at an operation that does not stop nothing was inserted behind the run's point
  at_once : stops_at (slice_get m.code.operations m.at.place) ≡ false → frames_point m ≡ r.point
  at_once quiet = r.here ∙ ap (λ k. record r.point { state = inserting_many (setting m) k r.point.gap r.point.state }) (r.idle quiet)

  settled_here : next_insertion m.placed (most_inserted m.code) m.made ≡ None
      → next_insertion m.placed (most_inserted m.code) (inserting_many (setting m) r.count r.point.gap r.point.state).made ≡ None
  settled_here none = ap (λ (v : BusRun). next_insertion m.placed (most_inserted m.code) v.made) (sym bus_is) ∙ none

  sends_alike : (o : Option (Line × Message)) (on : Line → Line) → next_insertion m.placed (most_inserted m.code) m.made ≡ None
      → sends (world_in m) o on m.at r.point ≡ sends (world_in m) o on m.at (frames_point m)
  sends_alike None on none = refl
  sends_alike (Some x) on none =
      ap (λ (q : Point BusRun Outcome). goes_on (record { at = record m.at { place = m.at.place + 1; line = on x.0 }; point = q }))
      (sent_settled m.plan m.placed (most_inserted m.code) (on x.0) x.1 r.point r.count (settled_here none)
      ∙ ap (λ (p : Point BusRun Outcome). sent (world_in m) (on x.0) x.1 p) (sym r.here))

  row_alike : (o : Option Op) → (stops_at o ≡ false → frames_point m ≡ r.point) → (stops_at o ≡ true → next_insertion m.placed (most_inserted m.code) m.made ≡ None)
      → act (world_in m) o m.code m.at r.point ≡ act (world_in m) o m.code m.at (frames_point m)
  row_alike None same none = refl
  row_alike (Some Halt) same none = refl
  row_alike (Some (Send i)) same none = sends_alike (slice_get m.code.messages i) (λ l. l) (none refl)
  row_alike (Some (Alt i)) same none = sends_alike (slice_get m.code.messages i) (λ l. other_line m.at.line) (none refl)
  row_alike (Some (SetGap t)) same none = ap (act (world_in m) (Some (SetGap t)) m.code m.at) (sym (same refl))
  row_alike (Some (Loop n)) same none = ap (act (world_in m) (Some (Loop n)) m.code m.at) (sym (same refl))
  row_alike (Some (Again i)) same none = ap (act (world_in m) (Some (Again i)) m.code m.at) (sym (same refl))
  row_alike (Some (Leave i)) same none = ap (act (world_in m) (Some (Leave i)) m.code m.at) (sym (same refl))
  row_alike (Some (Jump i)) same none = ap (act (world_in m) (Some (Jump i)) m.code m.at) (sym (same refl))
  row_alike (Some (Test k)) same none = ap (act (world_in m) (Some (Test k)) m.code m.at) (sym (same refl))
  row_alike (Some (JumpFalse i)) same none = ap (act (world_in m) (Some (JumpFalse i)) m.code m.at) (sym (same refl))
  row_alike (Some (Call n)) same none = ap (act (world_in m) (Some (Call n)) m.code m.at) (sym (same refl))
  row_alike (Some Return) same none = ap (act (world_in m) (Some Return) m.code m.at) (sym (same refl))
  row_alike (Some Begin) same none = ap (act (world_in m) (Some Begin) m.code m.at) (sym (same refl))
  row_alike (Some (Pace h)) same none = ap (act (world_in m) (Some (Pace h)) m.code m.at) (sym (same refl))

  pub none_of : waiting m ≡ None → stops_at (slice_get m.code.operations m.at.place) ≡ true → next_insertion m.placed (most_inserted m.code) m.made ≡ None
  none_of none stops = ap (λ b. cond b (next_insertion m.placed (most_inserted m.code) m.made) None) (sym stops) ∙ none

  -- where no inserted message waits, the run goes on as the controller does
  pub turn_is : waiting m ≡ None → step (world_in m) m.code m.at r.point ≡ turn_of m
  turn_is none = row_alike (slice_get m.code.operations m.at.place) at_once (none_of none)

  one_more : (n : ℕ) → suc n ≡ n + 1
  one_more n = omega arith

  pub run_on : (x : Running BusRun Outcome) → waiting m ≡ None → turn_of m ≡ goes_on x
      → run (world_in m) (m.taken + 1) m.code (start m.code) (beginning m.begun) ≡ goes_on x
  run_on x none e =
      subst (λ n. run (world_in m) n m.code (start m.code) (beginning m.begun) ≡ goes_on x) (one_more m.taken)
      (run_more (world_in m) m.code m.taken (start m.code) (beginning m.begun) here x (turn_is none ∙ e) r.run)

  -- ---- one step more

  counts : (x : Running BusRun Outcome) → turn_of m ≡ goes_on x → count_by is_own x.point.state.made ≡ x.point.number
  counts x e = (act_goes m.plan m.placed (most_inserted m.code) (slice_get m.code.operations m.at.place) m.code m.at (frames_point m) x e).counts refl

  pub moved_reached : (t : Turn (Running BusRun Outcome)) → waiting m ≡ None → turn_of m ≡ t → IsReached (moved_by t m)
  moved_reached (goes_on x) none e = record {
    point = x.point;
    count = 0;
    run = run_on x none e;
    here = ap (λ k. record x.point { number = k }) (counts x e);
    sent = omega arith;
    idle = λ quiet. refl;
  }
  moved_reached halted none e = r
  moved_reached stuck none e = r

  inserted_here : (x : InsertionValue) → next_insertion m.placed (most_inserted m.code) m.made ≡ Some x
      → frames_point (with_inserted m x) ≡ record r.point { state = inserting_many (setting m) (r.count + 1) r.point.gap r.point.state }
  inserted_here x waits =
      let s = setting m in
      let plus : suc r.count ≡ r.count + 1 = omega arith in
      let state : with_insertion s m.point.gap x (bus_run m) ≡ inserting_many s (r.count + 1) r.point.gap r.point.state =
      sym (one m.plan m.placed (most_inserted m.code) m.point.gap (bus_run m) x waits)
      ∙ ap₂ (inserting s) gap_is bus_is
      ∙ sym (last_of_many m.plan m.placed (most_inserted m.code) r.count r.point.gap r.point.state)
      ∙ ap (λ k. inserting_many s k r.point.gap r.point.state) plus in
      let own : count_by is_own (m.made ++ inserted ∷ []) ≡ r.point.number = own_more m.made inserted ∙ (omega (arith, own_is)) in
      ap₂ (λ (v : BusRun) (k : ℕ). record { state = v; number = k; gap = m.point.gap; last = m.point.last }) state own
      ∙ ap₂ (λ (g : ℕ) (o : Option Outcome). record { state = inserting_many s (r.count + 1) r.point.gap r.point.state; number = r.point.number; gap = g; last = o }) gap_is last_is

  pub inserted_reached : (x : InsertionValue) → waiting m ≡ Some x → IsReached (with_inserted m x)
  inserted_reached x e =
      let parts = waits_at m x e in
      record {
        point = r.point;
        count = r.count + 1;
        run = r.run;
        here = inserted_here x parts.1;
        sent = omega (arith, more_made m.made inserted, r.sent);
        idle = λ quiet. absurd (let both = sym parts.0 ∙ quiet in cc);
      }

  by_waiting : (o : Option InsertionValue) → waiting m ≡ o → IsReached (stepped_with o m)
  by_waiting None e = moved_reached (turn_of m) e refl
  by_waiting (Some x) e = inserted_reached x e

  pub reached_next : IsReached (stepped m)
  unfolding stepped
  reached_next = by_waiting (waiting m) refl
