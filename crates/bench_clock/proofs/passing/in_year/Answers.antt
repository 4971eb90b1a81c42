use Rattle.std.proofs.Common.{arith}
use Rattle.bench_clock.proofs.passing.in_year.Goals as goal

pub in_leap_year-requires : goal.in_leap_year-requires
in_leap_year-requires c = omega (arith, rw c.if-leap.true at c.requires)

pub in_short_year-requires : goal.in_short_year-requires
in_short_year-requires c = omega (arith, rw c.if-leap.false at c.requires)

pub returns-then-leap-clause-ticks : goal.returns-then-leap-clause-ticks
returns-then-leap-clause-ticks c = rw c.if-leap.true c.in_leap_year.ensures.ticks

pub returns-else-leap-clause-ticks : goal.returns-else-leap-clause-ticks
returns-else-leap-clause-ticks c = rw c.if-leap.false c.in_short_year.ensures.ticks
