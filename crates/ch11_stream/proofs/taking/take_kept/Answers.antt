use Rattle.std.proofs.Common.{◌≡◌, true, false, Err, sym, ap, ◌∙◌, rules}
use Rattle.std.specs.Io.KnownBytes.{prepend_known}
use Rattle.ch11_reader.specs.Recording.{packet_at}
use Rattle.ch11_stream.proofs.Judged.{body_fault, ends_early, filled_short, kept_taken}
use Rattle.ch11_stream.proofs.taking.take_kept.Goals as goal

pub returns-then-not-branch : goal.returns-then-not-branch
returns-then-not-branch g c =
    let none : c.in_ok-fill.field-0 ≡ false = search rules in
    rw c.refused.ensures (ends_early c.args.offset (prepend_known c.args.buffer.now.ready (g.R.Read.remaining c.args.input.now)) c.args.header c.requires.next
    (filled_short (g.R.Read.remaining c.args.input.now) (g.R.Read.remaining c.fill.new.input) c.args.buffer.now.ready c.fill.new.buffer.ready c.in_ok-fill.field-0 c.args.header none c.in_ok-fill.ensures.filled))

pub returns-in-Ok : goal.returns-in-Ok
returns-in-Ok g c =
    let e = rw c.ready.ensures at c.in-Ok.ensures in
    kept_taken (g.R.Read.remaining c.args.input.now) (g.R.Read.remaining c.fill.new.input) c.args.buffer.now.ready c.fill.new.buffer.ready c.in_ok-fill.field-0 c.args.header c.in-Ok.checked c.requires.kind c.requires.next c.in_ok-fill.ensures.filled
    e.read e.count e.few e.whole.0 e.whole.1 e.whole.2

pub returns-in-Err : goal.returns-in-Err
returns-in-Err g c =
    let all : c.in_ok-fill.field-0 ≡ true = search rules in
    let answer : packet_at c.fill.new.buffer.ready ≡ Err c.in-Err.fault = ap packet_at (sym c.ready.ensures) ∙ c.in-Err.ensures.read in
    rw c.refused-in-Err.ensures (body_fault c.args.offset (g.R.Read.remaining c.args.input.now) (g.R.Read.remaining c.fill.new.input) c.args.buffer.now.ready c.fill.new.buffer.ready c.in_ok-fill.field-0 c.args.header c.in-Err.fault all c.requires.next c.in_ok-fill.ensures.filled answer)
