use Rattle.std.proofs.Common.{length}
use Rattle.bench_cut.proofs.Choices.{IsChoosing}
use Rattle.bench_cut.proofs.choosing.choose.Given as goal

abbrev pub invariant-messages : goal.invariant-messages
invariant-messages l = IsChoosing l.selection l.kind l.fn.packet.before l.number l.channel l.fn.messages l.rest l.chosen

abbrev pub decreases-messages : goal.decreases-messages
decreases-messages l = length l.rest
