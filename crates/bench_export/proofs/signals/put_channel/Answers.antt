use Rattle.std.proofs.Common.{◌≡◌, ◌≤◌, length, arith}
use Rattle.std.specs.Prelude.{decimal}
use Rattle.std.proofs.lemmas.Fmt.{length-decimal-le}
use Rattle.bench_export.proofs.signals.put_channel.Goals as goal

pub write_digits-requires : goal.write_digits-requires
write_digits-requires c =
    let short : length (decimal c.from.result) ≤ 5 = length-decimal-le 5 c.from.result (omega arith) (omega (arith, c.from.ensures)) (omega (arith, c.from.ensures)) in
    (omega (arith, short), omega arith)

pub returns-clause-before : goal.returns-clause-before
returns-clause-before c = omega (arith, c.write_digits.ensures.start)

pub returns-clause-short : goal.returns-clause-short
returns-clause-short c =
    let short : length (decimal c.from.result) ≤ 5 = length-decimal-le 5 c.from.result (omega arith) (omega (arith, c.from.ensures)) (omega (arith, c.from.ensures)) in
    omega (arith, short, c.write_digits.ensures.start)

pub returns-clause-put : goal.returns-clause-put
returns-clause-put c = rw c.from.ensures at c.write_digits.ensures.written
