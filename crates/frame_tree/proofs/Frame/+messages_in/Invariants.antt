use Rattle.std.proofs.Common.{◌≡◌, ◌≤◌, ◌+◌, min}
use Rattle.frame_tree.specs.Bounds.{messages_in}
use Rattle.frame_tree.specs.Scopes.{scope_of}
use Rattle.frame_tree.proofs.Trees.{left_from}
use Rattle.frame_tree.proofs.Frame.+messages_in.Given as goal

abbrev pub invariant-loop-frame : goal.invariant-loop-frame
invariant-loop-frame g l = record {
  capped : l.total ≤ 1000001;
  left : min 1000001 (l.total + messages_in (scope_of l.initial.scope) (left_from l.frame-index l.frame-items)) ≡ min 1000001 (messages_in (scope_of l.initial.scope) (left_from 0 l.frame-items));
}
