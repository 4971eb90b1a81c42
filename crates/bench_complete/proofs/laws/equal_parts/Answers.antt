use Rattle.bench_complete.proofs.Equal as equal
use Rattle.bench_complete.proofs.laws.equal_parts.Goals as goal

pub returns : goal.returns
returns c = equal.equal_parts
