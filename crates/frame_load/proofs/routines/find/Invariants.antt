use Rattle.std.proofs.Common.{◌≡◌, ◌<◌, ℕ, suc, Some, get_or}
use Rattle.std.specs.Prelude.{slice_get}
use Rattle.frame_code.specs.declared.Op.TheVariants.{Return}
use Rattle.frame_code.specs.Routines.{owner_at}
use Rattle.frame_load.proofs.routines.find.Given as goal

abbrev pub invariant-loop-i : goal.invariant-loop-i
invariant-loop-i l = record {
  number : l.routine ≡ owner_at l.operations l.i;
  first : get_or l.starts 0 0 ≡ 0;
  so_far : (p : ℕ) → p < l.i → slice_get l.operations p ≡ Some Return → get_or l.starts (suc (owner_at l.operations p)) 0 ≡ suc p;
}
