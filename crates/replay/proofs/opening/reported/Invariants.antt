use Rattle.std.proofs.Common.{◌≡◌, take}
use Rattle.replay.specs.Accord.{reported}
use Rattle.replay.proofs.opening.reported.Given as goal

abbrev pub invariant-loop-part : goal.invariant-loop-part
invariant-loop-part l = l.channels.items ≡ reported (take l.part-index l.parts)
