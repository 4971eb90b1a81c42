use Rattle.std.proofs.Common.{length}
use Rattle.bench_reproduce.proofs.Keeping.{IsKeeping}
use Rattle.bench_reproduce.proofs.hearing.keep_messages.Given as goal

abbrev pub invariant-messages : goal.invariant-messages
invariant-messages l = IsKeeping l.kind l.fn.heard l.heard l.fn.packet.before l.number l.fn.messages l.rest

abbrev pub decreases-messages : goal.decreases-messages
decreases-messages l = length l.rest
