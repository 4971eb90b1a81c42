use Rattle.std.proofs.Common.{length}
use Rattle.bench_check.proofs.signals.put_recorded.Given as goal

abbrev pub decreases-messages : goal.decreases-messages
decreases-messages l = length l.rest
