use Rattle.std.proofs.Common.{length}
use Rattle.bench_decode.proofs.Wording.{IsPutting}
use Rattle.bench_decode.proofs.line.TextLine.put_text.Given as goal

abbrev pub invariant-pieces : goal.invariant-pieces
invariant-pieces g l = IsPutting (g.W.Write.contents l.fn.out) l.fn.self (g.W.Write.contents l.out) l.self l.text l.rest

abbrev pub decreases-pieces : goal.decreases-pieces
decreases-pieces g l = length l.rest
