use Rattle.bench_compare.proofs.Sameness as same
use Rattle.bench_compare.proofs.laws.first_difference.Goals as goal

pub returns : goal.returns
returns c = same.first_difference
