use Rattle.std.proofs.Common.{◌≡◌, ℕ, ◌<◌, Some}
use Rattle.std.specs.Prelude.{slice_get}
use Rattle.frame_code.specs.declared.Op.{Op}
use Rattle.frame_code.specs.Loadable.{HasMessage}
use Rattle.frame_load.proofs.checks.all_have_messages.Given as goal

abbrev pub invariant-loop-op : goal.invariant-loop-op
invariant-loop-op l = (p : ℕ) (o : Op) → p < l.op-index → slice_get l.operations p ≡ Some o → HasMessage l.count o
