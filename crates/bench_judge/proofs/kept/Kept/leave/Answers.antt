use Rattle.bench_judge.proofs.Holding.{left_none, left_some}
use Rattle.bench_judge.proofs.kept.Kept.leave.Goals as goal

pub returns-in-None : goal.returns-in-None
returns-in-None c = λ other. left_none c.args.self.now other c.in-None.is

pub returns-in_ok-insert-in-Some : goal.returns-in_ok-insert-in-Some
returns-in_ok-insert-in-Some c = λ other. left_some c.args.self.now c.in-Some.value other _ c.in-Some.is (c.in_ok-insert-in-Some.ensures.updates.0 other)
