use Rattle.std.proofs.Common.{◌≡◌, ◌<◌, ℕ, get_or}
use Rattle.frame_code.specs.Routines.{owner_at}
use Rattle.frame_load.proofs.routines.number.Given as goal

abbrev pub invariant-loop-i : goal.invariant-loop-i
invariant-loop-i l = record {
  number : l.routine ≡ owner_at l.operations l.i;
  so_far : (p : ℕ) → p < l.i → get_or l.numbers p 0 ≡ owner_at l.operations p;
}
