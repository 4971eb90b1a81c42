use Rattle.std.proofs.Common.{◌≡◌, map, take}
use Rattle.frame_tree.specs.Tree.{tree_of}
use Rattle.frame_tree.proofs.Frame.+copies.Given as goal

abbrev pub invariant-copies_of-loop-frame : goal.invariant-copies_of-loop-frame
invariant-copies_of-loop-frame g l = map tree_of l.copies.items ≡ map tree_of (take l.frame-index l.frames)
