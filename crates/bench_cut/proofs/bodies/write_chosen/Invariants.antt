use Rattle.std.proofs.Common.{length}
use Rattle.bench_cut.proofs.Writing.{IsWriting}
use Rattle.bench_cut.proofs.bodies.write_chosen.Given as goal

abbrev pub invariant-messages : goal.invariant-messages
invariant-messages g l = IsWriting l.selection l.kind (g.W.Write.contents l.fn.out) (g.W.Write.contents l.out) l.fn.packet.before l.number l.channel l.fn.messages l.rest

abbrev pub decreases-messages : goal.decreases-messages
decreases-messages g l = length l.rest
