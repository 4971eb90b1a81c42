use Rattle.std.proofs.Common.{◌≡◌, ℕ, List, Some}
use Rattle.bench_judge.proofs.Skipping.{IsSkipping}
use Rattle.bench_judge.proofs.skips.read_skips.Given as goal

-- the skips so far are those of the file
abbrev pub invariant-stretches : goal.invariant-stretches
invariant-stretches g l = (file : List ℕ) → g.R.Read.remaining l.fn.input ≡ Some file → IsSkipping file l.skips.items l.stretches
