use Rattle.std.proofs.Common.{take}
use Rattle.replay.specs.Standings.{IsNearest}
use Rattle.replay.proofs.timeline.nearest.Given as goal

abbrev pub invariant-loop-i : goal.invariant-loop-i
invariant-loop-i l = IsNearest l.checkpoints (take l.i l.recent.items) l.place l.best
