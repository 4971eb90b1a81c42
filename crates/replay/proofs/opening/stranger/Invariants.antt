use Rattle.std.proofs.Common.{take}
use Rattle.replay.specs.Accord.{AreOfChannels}
use Rattle.replay.proofs.opening.stranger.Given as goal

abbrev pub invariant-loop-packet : goal.invariant-loop-packet
invariant-loop-packet l = AreOfChannels l.jobs (take l.packet-index l.index)
