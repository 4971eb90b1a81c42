use Rattle.std.proofs.Common.{◌↔◌}
use Rattle.frame_tree.specs.Bounds.{CallsKnown}
use Rattle.frame_tree.specs.Scopes.{scope_of}
use Rattle.frame_tree.proofs.Trees.{left_from}
use Rattle.frame_tree.proofs.Frame.+calls_known.Given as goal

abbrev pub invariant-loop-frame : goal.invariant-loop-frame
invariant-loop-frame g l = CallsKnown (scope_of l.initial.scope) (left_from l.frame-index l.frame-items) ↔ CallsKnown (scope_of l.initial.scope) (left_from 0 l.frame-items)
