use Rattle.std.proofs.Common.{arith}
use Rattle.std.proofs.lemmas.Fmt.{decimal_digit}
use Rattle.itoa.proofs.Decimal.{decimal_two}
use Rattle.bench_dump.proofs.Placing.{placed_one}
use Rattle.bench_dump.proofs.digits.TwoDigits.place.Goals as goal

pub returns-then-number-lt10-clause-placed : goal.returns-then-number-lt10-clause-placed
returns-then-number-lt10-clause-placed c =
    rw (decimal_digit c.args.number c.if-number-lt10.true) (placed_one c.args.buffer.now c.args.at _ (omega arith))

pub returns-clause-placed : goal.returns-clause-placed
returns-clause-placed c = rw (decimal_two c.args.number c.if-number-lt10.false c.requires.small) c.place_padded.ensures.placed
