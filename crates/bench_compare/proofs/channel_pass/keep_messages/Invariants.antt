use Rattle.std.proofs.Common.{length}
use Rattle.bench_compare.proofs.Keeping.{IsKeeping}
use Rattle.bench_compare.proofs.channel_pass.keep_messages.Given as goal

abbrev pub invariant-messages : goal.invariant-messages
invariant-messages l = IsKeeping l.selection l.kind l.fn.kept.items l.kept.items l.fn.packet.before l.number l.channel l.fn.messages l.rest

abbrev pub decreases-messages : goal.decreases-messages
decreases-messages l = length l.rest
