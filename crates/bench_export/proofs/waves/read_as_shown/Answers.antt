use Rattle.bench_export.proofs.Latest as latest
use Rattle.bench_export.proofs.waves.read_as_shown.Goals as goal

pub returns : goal.returns
returns c = latest.read_as_shown
