use Rattle.std.proofs.Common.{length}
use Rattle.bench_check.proofs.fitting.+replies_ticks.Given as goal

abbrev pub decreases-replies_ticks : goal.decreases-replies_ticks
decreases-replies_ticks l = length l.due.now
