use Rattle.std.proofs.Common.{ℕ, ◌^◌, ◌<◌, get_or}
use Rattle.mil_terminal.proofs.values.are_small.Given as goal

abbrev pub invariant-loop-i : goal.invariant-loop-i
invariant-loop-i l = (k : ℕ) (d : ℕ) → k < l.i → get_or l.values k d < 2 ^ 16
