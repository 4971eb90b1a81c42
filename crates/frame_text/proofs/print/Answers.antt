use Rattle.std.proofs.Common.{◌++◌, ap, ◌∙◌}
use Rattle.frame_tree.specs.Tree.{tree_of}
use Rattle.frame_text.specs.Frames.{tree_of_text}
use Rattle.frame_text.specs.Printing.{printed}
use Rattle.frame_text.proofs.TreesRead.{sound_back}
use Rattle.frame_text.proofs.print.Goals as goal

pub returns-clause-reads_back : goal.returns-clause-reads_back
returns-clause-reads_back g c = λ is sound.
    ap tree_of_text (c.in_ok-put_lines.ensures ∙ ap (λ xs. xs ++ printed (tree_of c.args.frame.now)) c.new-text.ensures.bytes)
    ∙ sound_back (tree_of c.args.frame.now) is sound
