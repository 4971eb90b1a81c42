use Rattle.std.proofs.Common.{◌≡◌, ◌+◌, length, arith}
use Rattle.bench_dump.proofs.Placing.{placed_then}
use Rattle.bench_decode.proofs.Drawing.{all-placed, first-placed, seen-length, told-placed}
use Rattle.bench_decode.proofs.line.TextLine.put_front.Goals as goal

pub returns-clause-put : goal.returns-clause-put
returns-clause-put c =
    let at = c.self.inside.len in
    let waits : length c.args.self.now.text ≡ c.self.inside.len = seen-length _ _ _ c.self.inside.shown c.args.self.now c.self.view_is (omega (arith, c.self.invariant.size, c.self.invariant.within)) in
    let number = first-placed _ _ at _ 7 (at + 7) c.args.number.now c.place_bytes-self-inside.ensures (omega arith) (omega arith) (omega (arith, c.self.invariant.within, c.as_mut_slice-buffer.ensures.len, c.self.invariant.size)) in
    let seconds = first-placed _ _ (at + 7) _ 6 (at + 13) c.args.seconds.now c.place_bytes-self-inside-2.ensures (omega arith) (omega arith) (omega (arith, waits, c.requires, c.place_bytes-self-inside.ensures.size, c.as_mut_slice-buffer.ensures.len, c.self.invariant.size)) in
    let decimals = all-placed _ _ (at + 13) _ (at + 21) c.args.decimals.now c.place_bytes-self-inside-3.ensures (omega arith) in
    let channel = all-placed _ _ (at + 21) _ (at + 29) c.args.channel.now c.place_bytes-self-inside-4.ensures (omega arith) in
    let in_channel = all-placed _ _ (at + 29) _ (at + 37) c.args.in_channel.now c.place_bytes-self-inside-5.ensures (omega arith) in
    let whole = placed_then _ _ _ _ _ _ _ _ number (placed_then _ _ _ _ _ _ _ _ seconds (placed_then _ _ _ _ _ _ _ _ decimals
    (placed_then _ _ _ _ _ _ _ _ channel (placed_then _ _ _ _ _ _ _ _ in_channel c.place_bytes-self-inside-6.ensures)))) in
    told-placed _ _ _ _ _ _ _ _ c.self.inside.shown c.args.self.now c.as_mut_slice-buffer.ensures.value whole (omega (arith, whole.size, c.as_mut_slice-buffer.ensures.len)) c.self.invariant.begins c.self.view_is
