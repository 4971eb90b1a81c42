use Rattle.std.proofs.Common.{◌≡◌, ◌++◌, string_bytes}
use Rattle.frame_tree.proofs.Trees.{left_from}
use Rattle.frame_text.specs.Printing.{lines}
use Rattle.frame_text.proofs.printed_frames.+lines.Given as goal

abbrev pub invariant-put_lines-loop-one : goal.invariant-put_lines-loop-one
invariant-put_lines-loop-one g l =
    string_bytes l.out ++ lines l.depth (left_from l.one-index l.one-items) ≡ string_bytes l.initial.out ++ lines l.depth (left_from 0 l.one-items)
