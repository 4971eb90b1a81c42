use Rattle.std.proofs.Common.{◌≡◌, ◌+◌, ◌≤◌, arith}
use Rattle.bench_clock.proofs.Rulings.{early, late}
use Rattle.bench_clock.proofs.passing.utc_behind.Goals as goal

pub returns-then-ticks-lt-END-clause-ticks : goal.returns-then-ticks-lt-END-clause-ticks
returns-then-ticks-lt-END-clause-ticks c =
    let sum : c.saturating_add-ticks.result ≡ c.args.start + c.args.passed = omega (arith, c.saturating_add-ticks.ensures, c.if-ticks-lt-END.true) in
    early c.saturating_add-ticks.result (c.args.start + c.args.passed) sum c.if-ticks-lt-END.true

pub returns-else-ticks-lt-END-clause-ticks : goal.returns-else-ticks-lt-END-clause-ticks
returns-else-ticks-lt-END-clause-ticks c =
    let sum : 2534023008000000000 ≤ c.args.start + c.args.passed = omega (arith, c.saturating_add-ticks.ensures, c.if-ticks-lt-END.false) in
    late (c.args.start + c.args.passed) sum
