use Rattle.std.proofs.Common.{arith}
use Rattle.bench_dump.proofs.Placing.{decimal_hundreds, placed_then}
use Rattle.bench_dump.proofs.digits.FourDigits.place.Goals as goal

pub returns-clause-placed : goal.returns-clause-placed
returns-clause-placed c =
    rw (decimal_hundreds c.args.number c.if-number-lt100.false (omega arith))
    (placed_then _ _ _ _ _ _ _ _ c.place-middle.ensures.placed c.place_padded.ensures.placed)
