use Rattle.std.proofs.Common.{arith}
use Rattle.bench_clock.proofs.passing.in_leap_year.Goals as goal

pub returns-clause-ticks : goal.returns-clause-ticks
returns-clause-ticks c = omega arith
