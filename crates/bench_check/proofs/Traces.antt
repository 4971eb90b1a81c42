-- What placing what is due leaves as it is, of the controller of a job under way.
use Rattle.std.proofs.Common.{◌≡◌, ℕ, List, [], refl, sym, ap, subst, ◌∙◌, arith, ◌⊎◌}
use Rattle.std.specs.Prelude.{Option, Some, None, slice_get}
use Rattle.frame_load.specs.Budget.{budget}
use Rattle.mil_line.specs.Plans.{Planned}
use Rattle.bc_machine.specs.Running.{MachineState}
use Rattle.job_moments.specs.Planning.{PlannedFault, PlanState}
use Rattle.job_file.specs.declared.timed.TimedAction.{TimedAction}
use Rattle.job_file.specs.declared.job_run.JobRun.{JobRun}
use Rattle.job_file.specs.Resolving.{standing, turns_left, IsPlannedUpTo, MayPlan}
use Rattle.job_file.specs.Timed.{Standing, done_at, due_now, faulted, with_action_now}
use Rattle.job_file.proofs.TurnLemmas.{IsSameButActions}

same_action : (o : Option TimedAction) (m : MachineState) → IsSameButActions m (with_action_now o m)
same_action None m = record { code = refl; plan = refl; begun = refl; taken = refl; number = refl }
same_action (Some w) m = record { code = refl; plan = refl; begun = refl; taken = refl; number = refl }

same_done : (o : Option ℕ) (s : Standing) → IsSameButActions s.machine (done_at o s).machine
same_done None s = record { code = refl; plan = refl; begun = refl; taken = refl; number = refl }
same_done (Some place) s = same_action (slice_get s.left place) s.machine

-- where the first that is due is done
pub may_plan_done : (r n : JobRun) → standing n ≡ done_at (due_now (standing r)) (standing r) → n.faults ≡ r.faults → MayPlan r → MayPlan n
may_plan_done r n is faults planned =
    let same = same_done (due_now (standing r)) (standing r) in
    let plan : n.machine.plan ≡ r.machine.plan = ap (λ (v : Standing). v.machine.plan) is ∙ same.plan in
    let number : n.machine.point.number ≡ r.machine.point.number = ap (λ (v : Standing). v.machine.point.number) is ∙ same.number in
    subst (λ (v : PlanState). (v.faults ≡ []) ⊎ IsPlannedUpTo n.machine.point.number n.machine.plan) (sym faults)
    (subst (λ k. (r.faults.faults ≡ []) ⊎ IsPlannedUpTo k n.machine.plan) (sym number)
    (subst (λ (ps : List Planned). (r.faults.faults ≡ []) ⊎ IsPlannedUpTo r.machine.point.number ps) (sym plan) planned))

pub left_done : (r n : JobRun) → standing n ≡ done_at (due_now (standing r)) (standing r) → turns_left n.machine ≡ turns_left r.machine
left_done r n is =
    let same = same_done (due_now (standing r)) (standing r) in
    let code = ap (λ (v : Standing). budget v.machine.code.operations) is ∙ ap (λ c. budget c.operations) same.code in
    let taken = ap (λ (v : Standing). v.machine.taken) is ∙ same.taken in
    let number = ap (λ (v : Standing). v.machine.point.number) is ∙ same.number in
    omega (arith, code, taken, number)

-- where faults are planned
pub left_faulted : (faults : List PlannedFault) (m n : MachineState) → n ≡ faulted faults m → turns_left n ≡ turns_left m
unfolding faulted
left_faulted faults m n is = ap turns_left is
