use Rattle.replay.specs.Standings.{AreUpTo}
use Rattle.replay.proofs.standings.play_all.Given as goal

abbrev pub invariant-loop-i : goal.invariant-loop-i
invariant-loop-i l = AreUpTo l.tracks l.channels l.from l.to l.i l.all.items
