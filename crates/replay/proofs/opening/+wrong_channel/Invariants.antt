use Rattle.std.proofs.Common.{length}
use Rattle.replay.proofs.opening.+wrong_channel.Given as goal

abbrev pub decreases-wrong_channel : goal.decreases-wrong_channel
decreases-wrong_channel l = length l.jobs.now
