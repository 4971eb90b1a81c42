use Rattle.bench_dump.proofs.Placing.{decimal_at, placed_pair}
use Rattle.bench_dump.proofs.digits.TwoDigits.place_padded.Goals as goal

pub returns-clause-placed : goal.returns-clause-placed
returns-clause-placed c =
    let digits = decimal_at c.args.number c.requires.small in
    rw (digits.0, digits.1) (placed_pair c.args.buffer.now c.args.at _ _ c.requires.room)
