use Rattle.std.proofs.Common.{length}
use Rattle.bench_export.proofs.Changing.{IsAdding}
use Rattle.bench_export.proofs.changes.push_messages.Given as goal

abbrev pub invariant-messages : goal.invariant-messages
invariant-messages l = IsAdding l.selection l.kind l.fn.changes.items l.changes.items l.fn.packet.before l.number l.channel l.fn.messages l.rest

abbrev pub decreases-messages : goal.decreases-messages
decreases-messages l = length l.rest
