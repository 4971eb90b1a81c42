use Rattle.replay.specs.Standings.{AreRestored}
use Rattle.replay.proofs.standings.restore_all.Given as goal

abbrev pub invariant-loop-i : goal.invariant-loop-i
invariant-loop-i l = AreRestored l.tracks l.kept l.i l.all.items
