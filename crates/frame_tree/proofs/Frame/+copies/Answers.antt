use Rattle.std.proofs.Common.{map, sym, ap, ◌∙◌, arith, rules}
use Rattle.std.proofs.lemmas.List.{take_all}
use Rattle.frame_tree.specs.Tree.{tree_of, chain}
use Rattle.frame_tree.specs.declared.Frame.{the_lemmas}
use Rattle.frame_tree.proofs.Trees.{tree_seq, one_more}
use Rattle.frame_tree.proofs.Frame.+copies.Goals as goal

pub copies_of-loop-frame-preserved : goal.copies_of-loop-frame-preserved
copies_of-loop-frame-preserved g t c =
    ap (map tree_of) c.in_ok-push.ensures.items
    ∙ one_more _ c.args.frames.now c.loop-frame.frame-index _ c.frame-item.result (omega arith) c.frame-item.is c.loop-frame.invariant c.in_ok-copied.ensures

pub copies_of-copied-requires : goal.copies_of-copied-requires
copies_of-copied-requires g t c κs within = (grind (the_lemmas, arith) steps 60000000, search rules)

pub copies_of-returns : goal.copies_of-returns
copies_of-returns g t c =
    c.loop-frame.invariant
    ∙ ap (map tree_of) (take_all c.loop-frame.frame-index c.args.frames.now (omega arith))

pub copied-returns-in_ok-copies_of-in-Seq : goal.copied-returns-in_ok-copies_of-in-Seq
copied-returns-in_ok-copies_of-in-Seq g t c =
    tree_seq c.in_ok-copies_of-in-Seq.field-0
    ∙ ap chain (c.in_ok-copies_of-in-Seq.ensures ∙ ap (map tree_of) c.as_slice.ensures.value)
    ∙ sym (tree_seq c.in-Seq.frames)
    ∙ ap tree_of (sym c.in-Seq.is)
