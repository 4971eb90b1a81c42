use Rattle.bench_check.proofs.Traces.{left_done, may_plan_done}
use Rattle.bench_check.proofs.tracing.do_first.Goals as goal

pub returns-clause-planned : goal.returns-clause-planned
returns-clause-planned c =
    may_plan_done c.args.run.now c.do_first.new.self c.do_first.ensures.done c.do_first.ensures.faults c.requires.planned

pub returns-clause-left : goal.returns-clause-left
returns-clause-left c = left_done c.args.run.now c.do_first.new.self c.do_first.ensures.done
