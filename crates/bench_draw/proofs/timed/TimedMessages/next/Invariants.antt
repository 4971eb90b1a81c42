use Rattle.std.proofs.Common.{◌≤◌, length}
use Rattle.bench_draw.proofs.timed.TimedMessages.next.Given as goal

abbrev pub invariant-messages : goal.invariant-messages
invariant-messages l = length l.self.rest ≤ length l.fn.self.rest

abbrev pub decreases-messages : goal.decreases-messages
decreases-messages l = length l.self.rest
