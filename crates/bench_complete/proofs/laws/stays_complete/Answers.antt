use Rattle.bench_complete.proofs.Stays as stays
use Rattle.bench_complete.proofs.laws.stays_complete.Goals as goal

pub returns : goal.returns
returns c = stays.stays_complete
