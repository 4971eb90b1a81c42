use Rattle.std.proofs.Common.{◌≡◌, ℕ, List, Some}
use Rattle.bench_dump.proofs.InTurn.{IsPrinted}
use Rattle.bench_dump.proofs.skipping.dump_skipping.Given as goal

abbrev pub invariant-stretches : goal.invariant-stretches
invariant-stretches g l =
    (file : List ℕ) → g.R.Read.remaining l.fn.input ≡ Some file
    → IsPrinted l.clock l.timed file (g.W.Write.contents l.fn.out) (g.W.Write.contents l.out) l.text l.stretches
