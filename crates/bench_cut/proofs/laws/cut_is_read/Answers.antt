use Rattle.bench_cut.proofs.Read as read
use Rattle.bench_cut.proofs.laws.cut_is_read.Goals as goal

pub returns : goal.returns
returns c = read.cut_is_read
