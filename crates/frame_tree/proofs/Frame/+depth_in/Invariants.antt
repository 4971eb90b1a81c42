use Rattle.std.proofs.Common.{◌≡◌, ◌≤◌, min, max}
use Rattle.frame_tree.specs.Bounds.{depth_in}
use Rattle.frame_tree.specs.Scopes.{scope_of}
use Rattle.frame_tree.proofs.Trees.{left_from}
use Rattle.frame_tree.proofs.Frame.+depth_in.Given as goal

abbrev pub invariant-loop-frame : goal.invariant-loop-frame
invariant-loop-frame g l = record {
  capped : l.deepest ≤ 17;
  least : min 17 (max l.deepest (depth_in (scope_of l.initial.scope) (left_from l.frame-index l.frame-items))) ≡ min 17 (depth_in (scope_of l.initial.scope) (left_from 0 l.frame-items));
}
