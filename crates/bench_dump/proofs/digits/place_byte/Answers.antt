use Rattle.std.proofs.Common.{arith}
use Rattle.bench_dump.proofs.Placing.{hexadecimal_at, placed_pair}
use Rattle.bench_dump.proofs.digits.place_byte.Goals as goal

pub returns-clause-placed : goal.returns-clause-placed
returns-clause-placed c =
    let digits = hexadecimal_at c.args.byte (omega arith) in
    rw (digits.0, digits.1) (placed_pair c.args.buffer.now c.args.at _ _ c.requires)
