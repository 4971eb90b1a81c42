use Rattle.job_file.specs.Jobs.{job_in}
use Rattle.job_file.proofs.BeginLemmas.{under_found}
use Rattle.job_file.proofs.resolving.plan_of_run.Goals as goal

pub returns : goal.returns
returns c =
    let job = c.args.job.now in
    let is = c.in_ok-plan.ensures in
    under_found (job_in job) job.timed c.args.placed.now is.last.machine c.in_ok-plan.field-0.plan c.requires is.end is.plans
