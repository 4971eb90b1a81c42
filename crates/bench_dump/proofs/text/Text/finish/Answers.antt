use Rattle.bench_dump.proofs.Packets.{kept}
use Rattle.bench_dump.proofs.text.Text.finish.Goals as goal

pub returns-clause-printed : goal.returns-clause-printed
returns-clause-printed g c = kept _ _ _ _ (rw c.as_slice.ensures at c.in_ok-write_all.ensures.bytes) c.in_ok-flush.ensures.bytes
