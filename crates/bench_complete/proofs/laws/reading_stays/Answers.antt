use Rattle.bench_complete.proofs.Readable as readable
use Rattle.bench_complete.proofs.laws.reading_stays.Goals as goal

pub returns : goal.returns
returns c = readable.reading_stays
