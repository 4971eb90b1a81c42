use Rattle.std.proofs.Common.{◌≡◌, ℕ, ◌+◌, ◌^◌, ◌<◌, get_or, min}
use Rattle.frame_load.specs.Budget.{weight}
use Rattle.frame_load.proofs.sums.mark_weights.Given as goal

abbrev pub invariant-loop-i : goal.invariant-loop-i
invariant-loop-i l = record {
  now : l.current ≡ min (2 ^ 46 + 1) (weight l.operations l.i);
  so_far : (p : ℕ) → p < l.i → get_or l.weights p 0 ≡ min (2 ^ 46 + 1) (weight l.operations p);
}
