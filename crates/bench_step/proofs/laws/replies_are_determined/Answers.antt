use Rattle.bench_step.proofs.Determined.{determined}
use Rattle.bench_step.proofs.laws.replies_are_determined.Goals as goal

pub returns : goal.returns
returns c = determined
