use Rattle.std.proofs.Common.{◌≡◌, ◌<◌, Err, length, sym, ap, ◌∙◌, arith}
use Rattle.ch11_header.specs.HeaderReading.{header_in}
use Rattle.ch11_stream.proofs.Fronts.{header_faulty}
use Rattle.ch11_stream.proofs.looking.look.Goals as goal

pub returns-in-Err-clause-begins : goal.returns-in-Err-clause-begins
returns-in-Err-clause-begins g c =
    let answer : header_in c.fill.new.buffer.ready ≡ Err c.in-Err.fault = ap header_in (sym c.ready.ensures) ∙ sym c.in-Err.ensures.answer in
    let some : 0 < length c.fill.new.buffer.ready = omega (arith, c.if-len-eq0.false, c.len.ensures) in
    header_faulty (g.R.Read.remaining c.args.input.now) (g.R.Read.remaining c.fill.new.input) c.args.buffer.now.ready c.fill.new.buffer.ready c.in_ok-fill.field-0 c.in-Err.fault c.in_ok-fill.ensures.filled some answer
