use Rattle.bench_select.proofs.Bits.{fitting_parts, width_most, width_some}
use Rattle.bench_select.proofs.signals.value_in.Goals as goal

pub reading_of-requires-clause-some : goal.reading_of-requires-clause-some
reading_of-requires-clause-some c =
    rw c.width.ensures (width_some c.args.signal.now.place (fitting_parts c.args.signal.now.place c.args.signal.now.kind c.args.signal.now.fits).0)

pub reading_of-requires-clause-most : goal.reading_of-requires-clause-most
reading_of-requires-clause-most c =
    rw c.width.ensures (width_most c.args.signal.now.place (fitting_parts c.args.signal.now.place c.args.signal.now.kind c.args.signal.now.fits).0)

pub reading_of-requires-clause-narrow : goal.reading_of-requires-clause-narrow
reading_of-requires-clause-narrow c = rw c.width.ensures c.in_ok-field.ensures.small

pub reading_of-requires-clause-fits : goal.reading_of-requires-clause-fits
reading_of-requires-clause-fits c =
    rw c.width.ensures (fitting_parts c.args.signal.now.place c.args.signal.now.kind c.args.signal.now.fits).1
