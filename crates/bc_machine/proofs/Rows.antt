-- One row of the operation table.
use Rattle.std.proofs.Common.{◌≡◌, ℕ, zero, suc, ◌+◌, ◌-◌, ◌*◌, ◌^◌, ◌≤◌, Bool, true, false, cond, eqb, List, [], ◌∷◌, length, refl, Option, Some, None, IsTrue, sym, ap, ap₂, subst, ◌∙◌, rules, tests}
use Rattle.std.specs.Prelude.{slice_get}
use Rattle.std.proofs.lemmas.Bool.{eq-eqb}
use Rattle.mil_message.specs.World.{Point, asks, now_at, paced_to}
use Rattle.mil_bus.specs.declared.outcomes.Outcome.{Outcome}
use Rattle.mil_monitor.specs.Observed.{observed}
use Rattle.frame_code.specs.declared.Op.{Op}
use Rattle.frame_code.specs.declared.Op.TheVariants as op
use Rattle.frame_code.specs.Table.{Registers, Running, Turn, goes_on, act, turns, counted, leaves, calls, comes_back, keeps_pace}
use Rattle.frame_code.specs.Routines.{routine_at}
use Rattle.frame_code.specs.Ranges.{AreInRange, in_range, is_gap, IsImage}
use Rattle.frame_load.specs.Budget.{cost_of, one_period, one_sent}
use Rattle.controller_host.specs.Values.{InsertionValue, latest_tick}
use Rattle.bc_machine.specs.declared.Stepped.{Stepped}
use Rattle.bc_machine.specs.declared.Stepped.TheVariants.{Inserted}
use Rattle.bc_machine.specs.Hosting.{next_insertion}
use Rattle.bc_machine.specs.MadeMessages.{MadeMessage}
use Rattle.bc_machine.specs.Moves.{moved_quietly}
use Rattle.bc_machine.specs.Controller.{BusRun, insertion_talk}
use Rattle.bc_machine.specs.Frames.{most_ticks, most_ticks_with}
use Rattle.bc_machine.specs.Running.{MachineState, setting, bus_run, most_inserted, world_in, frames_point, turn_of, moved_by, waiting, stops_at, with_inserted, stepped_with, stepped, answered_with, answered, answer_of, clock_in}

-- ---- rows that send nothing

module _ (m : MachineState) (same : m.point.number ≡ length m.made) where
  abbrev Alike : Turn (Running BusRun Outcome) → Type 0
  Alike t = moved_quietly t m ≡ moved_by t m

  stays : (a : Registers) (q : Point BusRun Outcome) → q.state.made ≡ m.made → Alike (goes_on (record { at = a; point = q }))
  stays a q made =
      let long : length q.state.made ≡ length m.made = ap length made in
      let number : m.point.number ≡ length q.state.made = same ∙ sym long in
      let latest : m.latest ≡ cond (eqb (length q.state.made) (length m.made)) m.latest q.last = sym (ap (λ b. cond b m.latest q.last) (eq-eqb (length q.state.made) (length m.made) long)) in
      ap (λ (k : ℕ). record m { taken = m.taken + 1; at = a; point = record { state = q.state.bus; number = k; gap = q.gap; last = q.last } }) number
      ∙ ap₂ (λ (ms : List MadeMessage) (l : Option Outcome). record m { taken = m.taken + 1; at = a; point = record { state = q.state.bus; number = length q.state.made; gap = q.gap; last = q.last }; made = ms; latest = l }) (sym made) latest

  quiet_counted : (k : ℕ) (ns : List ℕ) (i : ℕ) → Alike (counted (world_in m) k ns i m.at (frames_point m))
  quiet_counted zero ns i = stays (record m.at { place = m.at.place + 1; counters = ns }) (frames_point m) refl
  quiet_counted (suc k) ns i = stays (record m.at { place = i; counters = suc k ∷ ns }) (frames_point m) refl

  quiet_turns : (ns : List ℕ) (i : ℕ) → Alike (turns (world_in m) ns i m.at (frames_point m))
  quiet_turns [] i = refl
  quiet_turns (n ∷ ns) i = quiet_counted (n - 1) ns i

  quiet_leaves : (ns : List ℕ) (i : ℕ) → Alike (leaves (world_in m) ns i m.at (frames_point m))
  quiet_leaves [] i = refl
  quiet_leaves (n ∷ ns) i = stays (record m.at { place = i; counters = ns }) (frames_point m) refl

  quiet_calls : (o : Option ℕ) → Alike (calls (world_in m) o m.at (frames_point m))
  quiet_calls None = refl
  quiet_calls (Some i) = stays (record m.at { place = i; returns = (m.at.place + 1) ∷ m.at.returns }) (frames_point m) refl

  quiet_backs : (is : List ℕ) → Alike (comes_back (world_in m) is m.at (frames_point m))
  quiet_backs [] = refl
  quiet_backs (i ∷ is) = stays (record m.at { place = i; returns = is }) (frames_point m) refl

  quiet_paces : (bs : List ℕ) (h : ℕ) → Alike (keeps_pace (world_in m) bs h m.at (frames_point m))
  quiet_paces [] h = refl
  quiet_paces (b ∷ bs) h = stays (record m.at { place = m.at.place + 1; frames = bs }) (paced_to (world_in m) (b + 1000 * h) (frames_point m)) refl

  quiet_act : (o : Op) → stops_at (Some o) ≡ false → Alike (act (world_in m) (Some o) m.code m.at (frames_point m))
  quiet_act op.Halt stops = refl
  quiet_act (op.Send i) stops = absurd cc
  quiet_act (op.Alt i) stops = absurd cc
  quiet_act (op.SetGap t) stops = stays (record m.at { place = m.at.place + 1 }) (record (frames_point m) { gap = t }) refl
  quiet_act (op.Loop n) stops = stays (record m.at { place = m.at.place + 1; counters = n ∷ m.at.counters }) (frames_point m) refl
  quiet_act (op.Again i) stops = quiet_turns m.at.counters i
  quiet_act (op.Leave i) stops = quiet_leaves m.at.counters i
  quiet_act (op.Jump i) stops = stays (record m.at { place = i }) (frames_point m) refl
  quiet_act (op.Test k) stops = stays (record m.at { place = m.at.place + 1; flag = asks (world_in m) k (frames_point m) }) (frames_point m) refl
  quiet_act (op.JumpFalse i) stops = stays (record m.at { place = cond m.at.flag (m.at.place + 1) i }) (frames_point m) refl
  quiet_act (op.Call n) stops = quiet_calls (routine_at m.code.operations n)
  quiet_act op.Return stops = quiet_backs m.at.returns
  quiet_act op.Begin stops = stays (record m.at { place = m.at.place + 1; frames = now_at (world_in m) (frames_point m) ∷ m.at.frames }) (frames_point m) refl
  quiet_act (op.Pace h) stops = quiet_paces m.at.frames h

module _ (m : MachineState) (o : Op) (here : slice_get m.code.operations m.at.place ≡ Some o) where
  waits_by : (b : Bool) → stops_at (Some o) ≡ b → waiting m ≡ cond b (next_insertion m.placed (most_inserted m.code) m.made) None
  waits_by b stops =
      ap (λ v. cond (stops_at v) (next_insertion m.placed (most_inserted m.code) m.made) None) here
      ∙ ap (λ v. cond v (next_insertion m.placed (most_inserted m.code) m.made) None) stops

  -- at an operation that stops the queue is looked at, at others it is not
  pub waits_stop : stops_at (Some o) ≡ true → waiting m ≡ next_insertion m.placed (most_inserted m.code) m.made
  waits_stop stops = waits_by true stops

  pub waits_none : stops_at (Some o) ≡ false → waiting m ≡ None
  waits_none stops = waits_by false stops

  pub row_of : turn_of m ≡ act (world_in m) (Some o) m.code m.at (frames_point m)
  row_of = ap (λ v. act (world_in m) v m.code m.at (frames_point m)) here

  pub to_row : (new : MachineState) → waiting m ≡ None → new ≡ moved_by (act (world_in m) (Some o) m.code m.at (frames_point m)) m → new ≡ stepped m
  unfolding stepped
  to_row new none h = h ∙ sym (ap (λ t. moved_by t m) row_of) ∙ sym (ap (λ v. stepped_with v m) none)

  -- a row that sends nothing
  pub to_quiet_row : (new : MachineState) → m.point.number ≡ length m.made → stops_at (Some o) ≡ false → new ≡ moved_quietly (act (world_in m) (Some o) m.code m.at (frames_point m)) m → new ≡ stepped m
  to_quiet_row new same stops h = to_row new (waits_none stops) (h ∙ quiet_act m same o stops)

  pub to_answer : (new : MachineState) (r : Stepped) → waiting m ≡ None → new ≡ stepped m → r ≡ answer_of (Some o) new.point.state.talks → r ≡ answered m
  unfolding answered
  to_answer new r none h a =
      a
      ∙ ap (λ v. answer_of v new.point.state.talks) (sym here)
      ∙ ap (λ (z : MachineState). answer_of (slice_get m.code.operations m.at.place) z.point.state.talks) h
      ∙ sym (ap (λ v. answered_with v m) none)

  pub ticks : waiting m ≡ None → most_ticks m ≡ cost_of one_period (Some o) + cost_of one_sent (Some o) * 2 ^ 24
  ticks none =
      ap (λ v. most_ticks_with v m) none
      ∙ ap (λ v. cost_of one_period v + cost_of one_sent v * 2 ^ 24) here

module _ (m : MachineState) (x : InsertionValue) (e : waiting m ≡ Some x) where
  pub to_inserted : stepped m ≡ with_inserted m x
  unfolding stepped
  to_inserted = ap (λ v. stepped_with v m) e

  pub to_inserted_answer : answered m ≡ Inserted (observed (insertion_talk (setting m) m.point.gap x (bus_run m)))
  unfolding answered
  to_inserted_answer = ap (λ v. answered_with v m) e

  pub inserted_ticks : most_ticks m ≡ (latest_tick - clock_in m) + 2 ^ 24
  inserted_ticks = ap (λ v. most_ticks_with v m) e

-- each operation is in its range
range_at : (os : List Op) (i : ℕ) (o : Op) → AreInRange os → slice_get os i ≡ Some o → IsTrue (in_range o)
range_at [] i o r e = absurd (cc)
range_at (x ∷ os) zero o r e = let same : x ≡ o = cc in subst (λ v. IsTrue (in_range v)) same r.0
range_at (x ∷ os) (suc i) o r e = range_at os i o r.1 e

least_gap : (t : ℕ) → IsTrue (is_gap t) → 40 ≤ t
least_gap t h = search (rules, tests)

pub gap_at : (m : MachineState) (t : ℕ) → IsImage m.code → slice_get m.code.operations m.at.place ≡ Some (op.SetGap t) → 40 ≤ t
gap_at m t i e = least_gap t (range_at m.code.operations m.at.place (op.SetGap t) i.operands e)
