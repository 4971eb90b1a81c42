use Rattle.std.specs.Prelude.{⊤}
use Rattle.job_moments.proofs.counts.place_of.Given as goal

abbrev pub invariant-loop-place : goal.invariant-loop-place
invariant-loop-place l = ⊤
