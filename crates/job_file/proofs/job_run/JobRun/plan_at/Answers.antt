use Rattle.std.proofs.Common.{◌≡◌, ◌+◌, ◌≤◌, true, List, length, sym, subst, ◌∙◌}
use Rattle.std.specs.List.{list_all}
use Rattle.mil_line.specs.declared.faults.Fault.{Fault}
use Rattle.mil_line.specs.Plans.{faults_of}
use Rattle.mil_line.specs.Ranges.{is_in_range}
use Rattle.bc_machine.specs.Planning.{next_number}
use Rattle.job_file.proofs.ComingLemmas.{coming_with_faults}
use Rattle.job_file.proofs.FaultLemmas.{may_plan, faults_in_range, faulted_none, faulted_some, has_planned}
use Rattle.job_file.proofs.TurnLemmas.{has_planned_still, has_planned_some}
use Rattle.job_file.proofs.job_run.JobRun.plan_at.Goals as goal

pub plan_all-requires-clause-few : goal.plan_all-requires-clause-few
plan_all-requires-clause-few c =
    let r = c.args.self.now in
    let m = r.machine in
    let due = c.as_slice.ensures.value ∙ c.faults-due.ensures in
    subst (λ (fs : List Fault). 1 ≤ length fs → length (faults_of (next_number m) m.plan) + length fs ≤ 4) (sym due)
    (may_plan m r.faults.made c.in-Some.met r.faults.faults c.requires.planned)

pub plan_all-requires-clause-ranges : goal.plan_all-requires-clause-ranges
plan_all-requires-clause-ranges c =
    let r = c.args.self.now in
    let due = c.as_slice.ensures.value ∙ c.faults-due.ensures in
    subst (λ (fs : List Fault). list_all is_in_range fs ≡ true) (sym due) (faults_in_range r.faults.made c.in-Some.met r.faults.faults c.requires.kept.ranges)

pub returns-in_ok-plan_all-in-Some-clause-faulted : goal.returns-in_ok-plan_all-in-Some-clause-faulted
returns-in_ok-plan_all-in-Some-clause-faulted c =
    let r = c.args.self.now in
    let due = c.as_slice.ensures.value ∙ c.faults-due.ensures in
    faulted_some r.faults.faults r.machine c.plan_all.new.machine c.in-Some.met c.as_slice.result.now r.faults.made (sym c.requires.next ∙ c.in-Some.is) c.requires.kept.met due c.in_ok-plan_all-in-Some.ensures.planned

pub returns-in_ok-plan_all-in-Some-clause-planned : goal.returns-in_ok-plan_all-in-Some-clause-planned
returns-in_ok-plan_all-in-Some-clause-planned c =
    let r = c.args.self.now in
    has_planned_some c.next_message_stays.ensures.faults r.faults.faults r.machine c.plan_all.new.machine c.in-Some.met c.as_slice.result.now (sym c.requires.next ∙ c.in-Some.is) c.in_ok-plan_all-in-Some.ensures.planned
    (has_planned r.faults.faults r.machine c.in-Some.met c.as_slice.result.now c.requires.planned)

pub returns-in_ok-plan_all-in-Some-clause-next : goal.returns-in_ok-plan_all-in-Some-clause-next
returns-in_ok-plan_all-in-Some-clause-next c =
    coming_with_faults c.next_message_stays.ensures.faults c.args.self.now.machine c.plan_all.new.machine c.as_slice.result.now c.in_ok-plan_all-in-Some.ensures.planned

pub returns-in-None-clause-faulted : goal.returns-in-None-clause-faulted
returns-in-None-clause-faulted c =
    let r = c.args.self.now in
    faulted_none r.faults.faults r.machine (sym c.requires.next ∙ c.in-None.is)

pub returns-in-None-clause-planned : goal.returns-in-None-clause-planned
returns-in-None-clause-planned c =
    let r = c.args.self.now in
    has_planned_still r.faults.faults r.machine (sym c.requires.next ∙ c.in-None.is) c.requires.planned
