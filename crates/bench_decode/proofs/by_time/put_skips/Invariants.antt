use Rattle.std.proofs.Common.{length}
use Rattle.bench_decode.proofs.Sorted.{AreSkipped}
use Rattle.bench_decode.proofs.by_time.put_skips.Given as goal

abbrev pub invariant-skips : goal.invariant-skips
invariant-skips g l = AreSkipped (g.W.Write.contents l.fn.out) l.fn.line (g.W.Write.contents l.out) l.line l.skips l.rest

abbrev pub decreases-skips : goal.decreases-skips
decreases-skips g l = length l.rest
