use Rattle.std.proofs.Common.{length}
use Rattle.bench_dump.specs.SkippingText.{skip_lines}
use Rattle.bench_dump.proofs.SkipLines.{IsPassing}
use Rattle.bench_dump.proofs.skips.dump_skips.Given as goal

abbrev pub invariant-skips : goal.invariant-skips
invariant-skips g l = IsPassing (g.W.Write.contents l.fn.out) l.fn.text (g.W.Write.contents l.out) l.text (skip_lines l.skips) (skip_lines l.rest)

abbrev pub decreases-skips : goal.decreases-skips
decreases-skips g l = length l.rest
