use Rattle.std.proofs.Common.{length}
use Rattle.bench_check.proofs.odd_lines.trimmed.Given as goal

abbrev pub decreases-loop-last : goal.decreases-loop-last
decreases-loop-last l = length l.rest
