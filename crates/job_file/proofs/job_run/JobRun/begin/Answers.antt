use Rattle.std.proofs.Common.{◌≡◌, true, length, refl, ap, arith, subst}
use Rattle.bc_machine.specs.Running.{started}
use Rattle.frame_asm.specs.Shapes.{code_of_tree}
use Rattle.std.specs.List.{list_all}
use Rattle.mil_line.specs.Ranges.{is_in_range}
use Rattle.job_moments.specs.Planning.{PlannedFault, PlanState}
use Rattle.job_file.specs.Jobs.{job_in, tree_in}
use Rattle.job_file.specs.Meaning.{bus_of}
use Rattle.job_file.specs.Resolving.{whens_left}
use Rattle.job_file.specs.TimedLines.{Timed}
use Rattle.job_file.proofs.BeginLemmas.{begins_as, kept_at_start, may_plan_at_start}
use Rattle.job_file.proofs.job_run.JobRun.begin.Goals as goal

pub returns-clause-beginning : goal.returns-clause-beginning
returns-clause-beginning c =
    let job = c.args.job.now in
    let awaited = c.in_ok-whens.ensures.whens in
    begins_as (whens_left c.in_ok-whens.whens) c.in_ok-machine_with_room.field-0
    (started (code_of_tree (tree_in job)) (bus_of (job_in job)) c.in_ok-plan.plan c.args.placed.now) c.in_ok-plan.plan
    c.in-Some.count c.args.more (record (job_in job) { actions = c.args.placed.now })
    (record job.timed { whens = c.args.whens.now })
    awaited
    (omega (arith, c.in-Ok.ensures, c.in-Some.ensures, ap length awaited))
    c.in_ok-plan.ensures.plan
    refl
    c.in_ok-machine_with_room.ensures.made

pub returns-clause-faults : goal.returns-clause-faults
returns-clause-faults c = ap (λ (p : PlanState). p.faults) c.in_ok-plan.ensures.faults

pub returns-clause-kept : goal.returns-clause-kept
returns-clause-kept c =
    let job = c.args.job.now in
    kept_at_start _ c.args.more (record (job_in job) { actions = c.args.placed.now })
    (record job.timed { whens = c.args.whens.now }) (returns-clause-beginning c)
    c.in_ok-machine_with_room.ensures.under_way
    c.in_ok-whens.ensures.made
    c.in_ok-plan.ensures.faults
    c.start.ensures.value
    (subst (λ (t : Timed). list_all (λ (p : PlannedFault). is_in_range p.fault) t.faults ≡ true) c.timed-said.ensures.value c.timed-said.ensures.fit.faults)

pub returns-clause-planned : goal.returns-clause-planned
returns-clause-planned c =
    let job = c.args.job.now in
    may_plan_at_start (record {
      machine = c.in_ok-machine_with_room.field-0;
      whens = c.in_ok-whens.whens;
      faults = c.in_ok-plan.faults;
      origin = c.start.result;
    }) c.args.more (record (job_in job) { actions = c.args.placed.now })
    (record job.timed { whens = c.args.whens.now }) (returns-clause-beginning c) (returns-clause-faults c)
