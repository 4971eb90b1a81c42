use Rattle.bench_dump.proofs.Timeless.{timeless}
use Rattle.bench_dump.proofs.laws.timeless_is_plain.Goals as goal

pub returns : goal.returns
returns c = timeless
