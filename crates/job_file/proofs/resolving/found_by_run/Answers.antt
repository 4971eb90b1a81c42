use Rattle.std.proofs.Common.{List, ◌++◌, ap, subst, ◌∙◌}
use Rattle.bc_machine.specs.declared.placed.Placed.{Placed}
use Rattle.job_file.specs.declared.timed.TimedAction.{TimedAction}
use Rattle.job_file.specs.Jobs.{job_in}
use Rattle.job_file.specs.Ends.{ComesTo}
use Rattle.job_file.specs.TimedLines.{Timed}
use Rattle.job_file.proofs.resolving.found_by_run.Goals as goal

pub returns : goal.returns
returns c =
    let job = c.args.job.now in
    let all = c.in_ok-plan.field-0.placed ++ c.in_ok-plan.field-0.posted in
    let plan = c.in_ok-plan.field-0.plan in
    let whens = c.whens.ensures ∙ ap (λ (t : Timed). t.whens) c.timed.ensures.value in
    let is : ComesTo (job_in job) job.timed all plan =
    subst (λ (ws : List TimedAction). ComesTo (job_in job) (record job.timed { whens = ws }) all plan) whens
    (subst (λ (ps : List Placed). ComesTo (record (job_in job) { actions = ps }) (record job.timed { whens = c.whens.result.now }) all plan) c.actions.ensures.value c.in_ok-plan.ensures) in
    record {
      last = is.last;
      end = is.end;
      acts = c.in_ok-joined.ensures ∙ is.acts;
      plans = is.plans;
      under_way = is.under_way;
      ended = is.ended;
      within = is.within;
    }
