use Rattle.std.proofs.Common.{length}
use Rattle.bench_decode.proofs.Putting.{IsValued}
use Rattle.bench_decode.proofs.messages.put_values.Given as goal

abbrev pub invariant-signals : goal.invariant-signals
invariant-signals g l = IsValued (g.W.Write.contents l.fn.out) l.fn.line (g.W.Write.contents l.out) l.line l.channel l.view l.signals l.rest

abbrev pub decreases-signals : goal.decreases-signals
decreases-signals g l = length l.rest
