use Rattle.bench_select.proofs.Bits.{fitting_parts}
use Rattle.bench_select.proofs.signals.field_in.Goals as goal

pub bits_at-requires : goal.bits_at-requires
bits_at-requires c = (fitting_parts c.args.signal.now.place c.args.signal.now.kind c.args.signal.now.fits).0
