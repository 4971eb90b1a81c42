use Rattle.bench_reproduce.proofs.Alike as alike
use Rattle.bench_reproduce.proofs.laws.all_are_same.Goals as goal

pub returns : goal.returns
returns c = alike.all_are_same
