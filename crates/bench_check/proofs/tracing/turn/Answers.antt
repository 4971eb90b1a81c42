use Rattle.std.proofs.Common.{◌<◌, subst, ◌∙◌}
use Rattle.job_file.specs.Resolving.{turns_left}
use Rattle.bench_check.proofs.Traces.{left_faulted}
use Rattle.bench_check.proofs.tracing.turn.Goals as goal

pub returns-clause-less : goal.returns-clause-less
returns-clause-less c = λ _.
    let here = c.do_due.new.run in
    let same = left_faulted here.faults.faults here.machine c.plan.new.self.machine c.in_ok-plan.ensures.faulted ∙ c.do_due.ensures.left in
    subst (λ n. turns_left c.goes_on.new.run.machine < n) same (c.goes_on.ensures.less c.if-not-goes_on.false)
