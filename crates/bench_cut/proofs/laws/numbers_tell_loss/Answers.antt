use Rattle.bench_cut.proofs.Jumps.{numbers_tell}
use Rattle.bench_cut.proofs.laws.numbers_tell_loss.Goals as goal

pub returns : goal.returns
returns c = numbers_tell
