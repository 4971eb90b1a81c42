use Rattle.std.proofs.Common.{◌≡◌, take, length, refl, arith}
use Rattle.std.specs.Prelude.{decimal}
use Rattle.bench_decode.proofs.Drawing.{told-told}
use Rattle.bench_decode.proofs.line.TextLine.put_right.Goals as goal

pub returns-clause-put : goal.returns-clause-put
returns-clause-put c =
    let text : take c.place_decimal-end.result c.place_decimal-end.new.buffer ≡ decimal c.args.number = c.place_decimal-end.ensures.placed.text in
    let many : c.place_decimal-end.result ≡ length (decimal c.args.number) = omega (arith, c.place_decimal-end.ensures.placed.moved) in
    rw (c.put.ensures.put, c.put_spaces.ensures.put, told-told, c.saturating_sub.ensures, text, many) refl
