use Rattle.bench_compare.proofs.Sameness as same
use Rattle.bench_compare.proofs.laws.no_difference.Goals as goal

pub returns : goal.returns
returns c = same.no_difference
