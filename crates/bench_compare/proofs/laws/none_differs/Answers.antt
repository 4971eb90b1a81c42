use Rattle.bench_compare.proofs.Sameness as same
use Rattle.bench_compare.proofs.laws.none_differs.Goals as goal

pub returns : goal.returns
returns c = same.none_differs
