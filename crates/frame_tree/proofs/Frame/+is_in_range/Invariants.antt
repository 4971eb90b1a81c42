use Rattle.std.proofs.Common.{◌↔◌}
use Rattle.frame_tree.specs.Bounds.{IsInRange}
use Rattle.frame_tree.proofs.Trees.{left_from}
use Rattle.frame_tree.proofs.Frame.+is_in_range.Given as goal

abbrev pub invariant-loop-frame : goal.invariant-loop-frame
invariant-loop-frame g l = IsInRange (left_from l.frame-index l.frame-items) ↔ IsInRange (left_from 0 l.frame-items)
