use Rattle.std.proofs.Common.{length}
use Rattle.bench_compare.proofs.Counted.{IsCounting}
use Rattle.bench_compare.proofs.counting.count_chosen.Given as goal

abbrev pub invariant-messages : goal.invariant-messages
invariant-messages l = IsCounting l.selection l.kind l.fn.packet.before l.number l.channel l.fn.messages l.rest l.count

abbrev pub decreases-messages : goal.decreases-messages
decreases-messages l = length l.rest
