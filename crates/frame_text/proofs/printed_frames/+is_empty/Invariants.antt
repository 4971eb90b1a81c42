use Rattle.std.proofs.Common.{◌≡◌}
use Rattle.frame_tree.proofs.Trees.{left_from}
use Rattle.frame_text.specs.Printing.{is_empty}
use Rattle.frame_text.proofs.printed_frames.+is_empty.Given as goal

abbrev pub invariant-loop-one : goal.invariant-loop-one
invariant-loop-one g l = is_empty (left_from l.one-index l.one-items) ≡ is_empty (left_from 0 l.one-items)
