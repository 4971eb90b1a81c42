use Rattle.std.proofs.Common.{◌≡◌, ◌<◌, ◌≤◌, ℕ, Some}
use Rattle.std.specs.Prelude.{slice_get}
use Rattle.frame_code.specs.declared.Op.{Op}
use Rattle.frame_code.specs.Routines.{owner_at}
use Rattle.frame_code.specs.Loadable.{CallsEarlier}
use Rattle.frame_load.proofs.routines.are_right.Given as goal

abbrev pub invariant-loop-op : goal.invariant-loop-op
invariant-loop-op l = record {
  number : l.routine ≡ owner_at l.operations l.op-index;
  few : l.routine ≤ l.op-index;
  so_far : (p : ℕ) (o : Op) → p < l.op-index → slice_get l.operations p ≡ Some o → CallsEarlier (owner_at l.operations p) o;
}
