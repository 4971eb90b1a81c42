use Rattle.std.proofs.Common.{◌≡◌, refl}
use Rattle.bench_export.proofs.Latest.{noted, place_at}
use Rattle.bench_export.proofs.lines.Lines.note.Goals as goal

pub returns : goal.returns
returns c cs shown =
    let here : c.place_of-place.result ≡ place_at c.args.change.now.on_b c.args.change.now.channel = rw (c.place_of-place.ensures.value, c.wire.ensures.on_b, c.wire.ensures.channel) refl in
    rw (here, c.shown.ensures)
    (noted c.args.self.now.shown.items c.reach.new.self.shown.items cs c.args.change.now (rw here at c.in_ok-reach.ensures.there) c.in_ok-reach.ensures.same shown)
