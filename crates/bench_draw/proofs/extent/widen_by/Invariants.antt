use Rattle.std.proofs.Common.{length}
use Rattle.bench_draw.proofs.Counting.{IsCounting}
use Rattle.bench_draw.proofs.extent.widen_by.Given as goal

abbrev pub invariant-messages : goal.invariant-messages
invariant-messages l = IsCounting l.fn.selection l.kind l.fn.extent.messages l.extent.messages l.found l.fn.packet.before l.number l.channel l.fn.messages l.rest

abbrev pub decreases-messages : goal.decreases-messages
decreases-messages l = length l.rest
