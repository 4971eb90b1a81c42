use Rattle.mil_bus.specs.Lengthened.{AreLike}
use Rattle.mil_bus.proofs.counts.count_like.Given as goal

abbrev pub invariant-loop-i : goal.invariant-loop-i
invariant-loop-i l = AreLike l.run l.i l.words
