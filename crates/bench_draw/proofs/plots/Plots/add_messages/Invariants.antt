use Rattle.std.proofs.Common.{length}
use Rattle.bench_draw.proofs.plots.Plots.add_messages.Given as goal

abbrev pub decreases-messages : goal.decreases-messages
decreases-messages l = length l.timed.rest
