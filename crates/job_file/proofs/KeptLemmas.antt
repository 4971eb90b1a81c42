-- What a run of a job with lines by time and by command keeps.
use Rattle.std.proofs.Common.{◌≡◌, ℕ, ◌+◌, ◌<◌, ◌≤◌, List, [], ◌∷◌, ◌++◌, length, sym, ap, subst, ◌∙◌, arith, inl, inr}
use Rattle.std.specs.Prelude.{Option, Some, None, Result, Ok, Err, OnOk, OnErr, IfSome}
use Rattle.std.specs.List.{remove, list_all}
use Rattle.std.proofs.lemmas.List.{length-append}
use Rattle.std.proofs.lemmas.List.Edits.{length-remove}
use Rattle.mil_line.specs.declared.faults.Fault.{Fault}
use Rattle.mil_line.specs.Ranges.{is_in_range}
use Rattle.bc_machine.specs.declared.placed.HostAction.{HostAction}
use Rattle.bc_machine.specs.Posting.{with_placed, at_next}
use Rattle.bc_machine.specs.Running.{MachineState, stepped}
use Rattle.bc_machine.specs.UnderWay.{IsUnderWay}
use Rattle.job_moments.specs.declared.met.Met.{Met}
use Rattle.job_moments.specs.Planning.{PlannedFault, PlanState}
use Rattle.job_moments.specs.Waits.{Awaited, Waits}
use Rattle.mil_bus.specs.Exchange.{BusState}
use Rattle.job_file.specs.declared.job_run.Due.{Due}
use Rattle.job_file.specs.declared.job_run.JobRun.{JobRun}
use Rattle.job_file.specs.Resolving.{IsKept, IsPlannedUpTo, MayPlan, HasPlanned, number_behind, made_behind}
use Rattle.job_file.specs.Timed.{made_of, coming_met, with_faults}
use Rattle.job_file.proofs.TurnLemmas.{IsBehind, same_stepped}

-- where there is room for it, an action is placed
pub placed_is : {X Y : Type 0} (r : Result X Y) (m n : MachineState) (a : HostAction) → OnOk r (n ≡ with_placed m (m.placed ++ at_next m a ∷ []))
    → OnErr r (m.capacity ≤ length m.placed) → length m.placed < m.capacity → n ≡ with_placed m (m.placed ++ at_next m a ∷ [])
placed_is (Ok x) m n a is full room = is
placed_is (Err y) m n a is full room = absurd (omega (arith, full, room))

-- where one was done
pub kept_done : (r n : JobRun) (place : ℕ) (action : HostAction) → IsKept r → place < length r.whens.left
    → n.machine ≡ with_placed r.machine (r.machine.placed ++ at_next r.machine action ∷ []) → IsUnderWay n.machine
    → n.whens.left ≡ remove r.whens.left place → n.whens.made ≡ r.whens.made → n.faults ≡ r.faults → n.origin ≡ r.origin → IsKept n
kept_done r n place action k within machine way left met faults origin =
    let made : made_of n.machine ≡ made_of r.machine = ap made_of machine in
    let number : n.machine.point.number ≡ r.machine.point.number = ap (λ (m : MachineState). m.point.number) machine in
    let capacity : n.machine.capacity ≡ r.machine.capacity = ap (λ (m : MachineState). m.capacity) machine in
    let placed : length n.machine.placed ≡ length r.machine.placed + 1 = ap (λ (m : MachineState). length m.placed) machine ∙ length-append r.machine.placed (at_next r.machine action ∷ []) in
    let fewer : length n.whens.left + 1 ≡ length r.whens.left = ap (λ (ls : List (Awaited Due)). length ls + 1) left ∙ length-remove r.whens.left place within in
    record {
      under_way = way;
      made = met ∙ k.made ∙ sym made;
      met = ap (λ (v : PlanState). v.made) faults ∙ k.met ∙ sym made;
      number = ap length made ∙ k.number ∙ sym number;
      origin = ap (λ (m : MachineState). m.begun.start) machine ∙ k.origin ∙ sym origin;
      room = omega (arith, capacity, placed, fewer, k.room);
      ranges = ap (λ (v : PlanState). list_all (λ (p : PlannedFault). is_in_range p.fault) v.faults) faults ∙ k.ranges;
    }

-- where none was
pub kept_left : (r : JobRun) (w : Waits Due) → IsKept r → w.left ≡ r.whens.left → w.made ≡ r.whens.made
    → IsKept (record r { whens = w })
kept_left r w k left met =
    let same : length w.left ≡ length r.whens.left = ap length left in
    record {
      under_way = k.under_way;
      made = met ∙ k.made;
      met = k.met;
      number = k.number;
      origin = k.origin;
      room = omega (arith, same, k.room);
      ranges = k.ranges;
    }

-- where faults were planned
pub kept_planned : (r n : JobRun) (due : List Fault) → IsKept r → n.machine ≡ with_faults r.machine due → IsUnderWay n.machine
    → n.whens ≡ r.whens → n.faults ≡ r.faults → n.origin ≡ r.origin → IsKept n
kept_planned r n due k machine way whens faults origin =
    let made : made_of n.machine ≡ made_of r.machine = ap made_of machine in
    let number : n.machine.point.number ≡ r.machine.point.number = ap (λ (m : MachineState). m.point.number) machine in
    let capacity : n.machine.capacity ≡ r.machine.capacity = ap (λ (m : MachineState). m.capacity) machine in
    let placed : length n.machine.placed ≡ length r.machine.placed = ap (λ (m : MachineState). length m.placed) machine in
    let same : length n.whens.left ≡ length r.whens.left = ap (λ (v : Waits Due). length v.left) whens in
    record {
      under_way = way;
      made = ap (λ (v : Waits Due). v.made) whens ∙ k.made ∙ sym made;
      met = ap (λ (v : PlanState). v.made) faults ∙ k.met ∙ sym made;
      number = ap length made ∙ k.number ∙ sym number;
      origin = ap (λ (m : MachineState). m.begun.start) machine ∙ k.origin ∙ sym origin;
      room = omega (arith, capacity, placed, same, k.room);
      ranges = ap (λ (v : PlanState). list_all (λ (p : PlannedFault). is_in_range p.fault) v.faults) faults ∙ k.ranges;
    }

longer : (next : Option Met) (made : List Met) (number : ℕ) → length made ≡ number → length (made_behind next made) ≡ number_behind next number
longer None made number e = e
longer (Some met) made number e = length-append made (met ∷ []) ∙ ap (λ n. n + 1) e

-- behind a step
pub kept_stepped : (r n : JobRun) (next : Option Met) → IsKept r → n.machine ≡ stepped r.machine → IsUnderWay n.machine → IsBehind next r.machine n.machine
    → n.whens ≡ record { left = r.whens.left; made = made_behind next r.whens.made }
    → n.faults ≡ record { faults = r.faults.faults; made = made_behind next r.faults.made } → n.origin ≡ r.origin → IsKept n
kept_stepped r n next k machine way behind whens faults origin =
    let same = same_stepped r.machine in
    let capacity : n.machine.capacity ≡ r.machine.capacity = ap (λ (m : MachineState). m.capacity) machine ∙ same.capacity in
    let placed : length n.machine.placed ≡ length r.machine.placed = ap (λ (m : MachineState). length m.placed) machine ∙ ap length same.placed in
    let left : length n.whens.left ≡ length r.whens.left = ap (λ (v : Waits Due). length v.left) whens in
    record {
      under_way = way;
      made = ap (λ (v : Waits Due). v.made) whens ∙ ap (made_behind next) k.made ∙ sym behind.made;
      met = ap (λ (v : PlanState). v.made) faults ∙ ap (made_behind next) k.met ∙ sym behind.made;
      number = ap length behind.made ∙ longer next (made_of r.machine) r.machine.point.number k.number ∙ sym behind.number;
      origin = ap (λ (m : MachineState). m.begun.start) machine ∙ ap (λ (v : BusState). v.start) same.begun ∙ k.origin ∙ sym origin;
      room = omega (arith, capacity, placed, left, k.room);
      ranges = ap (λ (v : PlanState). list_all (λ (p : PlannedFault). is_in_range p.fault) v.faults) faults ∙ k.ranges;
    }

-- what was planned for the message that was sent
pub planned_behind : (r n : JobRun) (next : Option Met) → n.machine ≡ stepped r.machine → coming_met r.machine ≡ next → IsBehind next r.machine n.machine → n.faults.faults ≡ r.faults.faults → HasPlanned r → MayPlan n
planned_behind r n next machine comes behind faults (inl none) = inl (faults ∙ none)
planned_behind r n next machine comes behind faults (inr planned) =
    let plan : n.machine.plan ≡ r.machine.plan = ap (λ (m : MachineState). m.plan) machine ∙ (same_stepped r.machine).plan in
    let number : n.machine.point.number ≡ number_behind (coming_met r.machine) r.machine.point.number = behind.number ∙ ap (λ o. number_behind o r.machine.point.number) (sym comes) in
    inr (subst (λ k. IsPlannedUpTo k n.machine.plan) (sym number) (subst (λ ps. IsPlannedUpTo (number_behind (coming_met r.machine) r.machine.point.number) ps) (sym plan) planned))

-- the messages that were met are few where one more comes
pub few_met : (next : Option Met) (met made : List Met) (n : ℕ) → IfSome next (λ _. n < 1000000) → met ≡ made → length made ≡ n → IfSome next (λ _. length met < 1000000)
few_met None met made n few e f = tt
few_met (Some x) met made n few e f = let same : length met ≡ length made = ap length e in omega (arith, same, f, few)
