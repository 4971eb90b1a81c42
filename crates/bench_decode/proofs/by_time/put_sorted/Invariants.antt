use Rattle.std.proofs.Common.{[]}
use Rattle.bench_decode.specs.Printed.{IsBehind}
use Rattle.bench_decode.proofs.Sorted.{AreGoing}
use Rattle.bench_decode.proofs.by_time.put_sorted.Given as goal

abbrev pub invariant-loop-one : goal.invariant-loop-one
invariant-loop-one g l = IsBehind l.output [] l.fn.printing → AreGoing l.output l.messages l.one-index (g.W.Write.contents l.fn.out) l.fn.printing (g.W.Write.contents l.out) l.printing
