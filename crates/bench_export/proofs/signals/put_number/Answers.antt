use Rattle.std.proofs.Common.{◌≤◌, length, arith}
use Rattle.std.specs.Prelude.{decimal}
use Rattle.std.proofs.lemmas.Fmt.{length-decimal-le}
use Rattle.bench_export.proofs.signals.put_number.Goals as goal

pub write_digits-requires : goal.write_digits-requires
write_digits-requires c =
    let short : length (decimal c.args.number) ≤ 20 = length-decimal-le 20 c.args.number (omega arith) (omega (arith, c.if-number.true)) (omega (arith, c.if-number.true)) in
    (omega (arith, short), omega arith)

pub returns-then-number-clause-short : goal.returns-then-number-clause-short
returns-then-number-clause-short c =
    let short : length (decimal c.args.number) ≤ 20 = length-decimal-le 20 c.args.number (omega arith) (omega (arith, c.if-number.true)) (omega (arith, c.if-number.true)) in
    omega (arith, short, c.write_digits.ensures.start)
