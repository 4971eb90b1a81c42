use Rattle.std.proofs.Common.{◌≡◌, ◌<◌, Ok, Err, length, sym, ap, ◌∙◌, arith}
use Rattle.std.proofs.lemmas.Bool.{eqb-false}
use Rattle.ch11_header.specs.HeaderReading.{header_in}
use Rattle.ch11_stream.proofs.Judged.{next_is, no_header}
use Rattle.ch11_stream.proofs.taking.next_header.Goals as goal

pub returns-in-Ok : goal.returns-in-Ok
returns-in-Ok g c =
    let answer : header_in c.fill.new.buffer.ready ≡ Ok c.in-Ok.header = ap header_in (sym c.ready-ready.ensures) ∙ sym c.in-Ok.ensures.answer in (
      next_is (g.R.Read.remaining c.fill.new.input) c.fill.new.buffer.ready c.in-Ok.header c.in-Ok.ensures.lengths.0 c.in-Ok.ensures.lengths.1 answer,
      c.in_ok-fill.ensures.filled.kept,
    )

pub returns-in-Err : goal.returns-in-Err
returns-in-Err g c =
    let answer : header_in c.fill.new.buffer.ready ≡ Err c.in-Err.fault = ap header_in (sym c.ready-ready.ensures) ∙ sym c.in-Err.ensures.answer in
    let some : 0 < length c.fill.new.buffer.ready = omega (arith, eqb-false (length c.ready-ready.result.now) 0 (sym c.if-is_empty.ensures), ap length c.ready-ready.ensures) in
    rw c.refused.ensures (no_header c.args.offset (g.R.Read.remaining c.args.input.now) (g.R.Read.remaining c.fill.new.input) c.args.buffer.now.ready c.fill.new.buffer.ready c.in_ok-fill.field-0 c.in-Err.fault c.in_ok-fill.ensures.filled some answer)
