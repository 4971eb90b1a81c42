use Rattle.std.proofs.Common.{◌≡◌, map, take}
use Rattle.replay.specs.Standings.{saved_of}
use Rattle.replay.proofs.standings.save_all.Given as goal

abbrev pub invariant-loop-standing : goal.invariant-loop-standing
invariant-loop-standing l = l.kept.items ≡ map saved_of (take l.standing-index l.all)
