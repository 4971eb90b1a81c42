use Rattle.std.proofs.Common.{◌≡◌, ℕ, List, Some}
use Rattle.bench_decode.proofs.Recordings.{IsPrinted}
use Rattle.bench_decode.proofs.streaming.decode_sound.Given as goal

abbrev pub invariant-stretches : goal.invariant-stretches
invariant-stretches g l =
    (file : List ℕ) → g.R.Read.remaining l.fn.input ≡ Some file
    → IsPrinted l.output file (g.W.Write.contents l.fn.out) (g.W.Write.contents l.out) l.printing l.stretches
