use Rattle.std.proofs.Common.{◌≡◌, ℕ, ◌<◌, ◌≤◌, Some}
use Rattle.std.specs.Prelude.{slice_get}
use Rattle.frame_code.specs.declared.Op.{Op}
use Rattle.frame_code.specs.Loadable.{open_at, IsPaired}
use Rattle.frame_load.specs.declared.nesting.Kind.TheVariants.{Loops}
use Rattle.frame_load.specs.Marks.{open_of}
use Rattle.frame_load.proofs.nesting.all_pair.Given as goal

abbrev pub invariant-loop-i : goal.invariant-loop-i
invariant-loop-i l = record {
  loops_are : l.loops ≡ open_of Loops l.operations l.i;
  few : l.loops ≤ l.i;
  so_far : (p : ℕ) (o : Op) → p < l.i → slice_get l.operations p ≡ Some o → IsPaired l.operations (open_at l.operations p) o;
}
