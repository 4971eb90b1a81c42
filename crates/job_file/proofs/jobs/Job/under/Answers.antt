use Rattle.std.proofs.Common.{List, ap, ◌∙◌}
use Rattle.mil_line.specs.Plans.{Planned}
use Rattle.job_file.proofs.jobs.Job.under.Goals as goal

pub returns-in-Ok : goal.returns-in-Ok
returns-in-Ok c =
    c.with_plan.ensures ∙ ap (λ (plan : List Planned). record c.args.self { plan = plan }) c.in-Ok.ensures
