use Rattle.std.proofs.Common.{length}
use Rattle.bench_export.proofs.Looking.{IsLooking}
use Rattle.bench_export.proofs.choosing.selects_among.Given as goal

abbrev pub invariant-messages : goal.invariant-messages
invariant-messages l = IsLooking l.selection l.kind l.fn.packet.before l.number l.channel l.fn.messages l.rest

abbrev pub decreases-messages : goal.decreases-messages
decreases-messages l = length l.rest
