use Rattle.std.proofs.Common.{refl}
use Rattle.bench_stat.specs.Figures.{terminals_of}
use Rattle.bench_stat.proofs.terminals.no_calls.Goals as goal

pub returns : goal.returns
unfolding terminals_of
returns c = rw c.none.ensures refl
