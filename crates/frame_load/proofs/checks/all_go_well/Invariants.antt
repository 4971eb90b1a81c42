use Rattle.std.proofs.Common.{◌≡◌, ℕ, ◌<◌, Some}
use Rattle.std.specs.Prelude.{slice_get}
use Rattle.frame_code.specs.declared.Op.{Op}
use Rattle.frame_code.specs.Loadable.{GoesWell}
use Rattle.frame_load.proofs.checks.all_go_well.Given as goal

abbrev pub invariant-loop-i : goal.invariant-loop-i
invariant-loop-i l = (p : ℕ) (o : Op) → p < l.i → slice_get l.operations p ≡ Some o → GoesWell l.operations p o
