use Rattle.bench_cut.proofs.Copies as copies
use Rattle.bench_cut.proofs.laws.copy_stays.Goals as goal

pub returns : goal.returns
returns c = copies.copy_stays
