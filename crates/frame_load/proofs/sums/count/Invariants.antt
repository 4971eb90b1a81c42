use Rattle.std.proofs.Common.{◌≡◌, ◌+◌, ◌^◌, ◌<◌, ℕ, get_or, min, length}
use Rattle.frame_code.specs.Routines.{owner_at}
use Rattle.frame_load.specs.Budget.{sums_at}
use Rattle.frame_load.specs.Marks.{counted}
use Rattle.frame_load.proofs.sums.count.Given as goal

abbrev pub invariant-loop-i : goal.invariant-loop-i
invariant-loop-i l = record {
  now : l.now ≡ min (2 ^ 46 + 1) (sums_at (counted l.what) l.operations l.i).now;
  long : length l.ended ≡ 32;
  number : l.routine ≡ owner_at l.operations l.i;
  ended : (r : ℕ) → r < owner_at l.operations l.i → get_or l.ended r 0 ≡ min (2 ^ 46 + 1) (get_or (sums_at (counted l.what) l.operations l.i).ended r 0);
}
