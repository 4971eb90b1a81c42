use Rattle.std.proofs.Common.{◌++◌, string_bytes, sym, ap, ap₂, ◌∙◌, arith, rules}
use Rattle.frame_tree.specs.Tree.{condition_in, tree_of, choose}
use Rattle.frame_tree.specs.declared.Frame.{the_lemmas}
use Rattle.frame_tree.proofs.Trees.{left_first, left_none, seq_tree, tree_if}
use Rattle.frame_text.specs.Printing.{lines}
use Rattle.frame_text.proofs.PrintedLines.{lines_more, lines_done, if_line}
use Rattle.frame_text.proofs.printed_frames.+lines.Goals as goal

pub put_lines-loop-one-preserved : goal.put_lines-loop-one-preserved
put_lines-loop-one-preserved g t c =
    let all = c.deref-one-items.result.now in
    lines_more _ _ _ _ _ _ _ (left_first all c.loop-one.one-index c.one-item.result c.loop-one-test.true c.one-item.is) c.in_ok-put_lines-in-Seq.ensures c.loop-one.invariant

pub put_lines-returns-after-loop-one : goal.put_lines-returns-after-loop-one
put_lines-returns-after-loop-one g t c =
    let all = c.deref-one-items.result.now in
    lines_done _ _ _ _ (left_none all c.loop-one.one-index c.loop-one-test.false) (c.loop-one.invariant ∙ ap (λ u. string_bytes c.args.out.now ++ lines c.args.depth u) (seq_tree c.args.frame.now c.in-Seq.frames all c.in-Seq.is c.deref-one-items.ensures.value))

pub put_lines-returns-in_ok-put_else-in-If : goal.put_lines-returns-in_ok-put_else-in-If
put_lines-returns-in_ok-put_else-in-If g t c =
    if_line c.args.depth (tree_of c.args.frame.now) (condition_in c.in-If.condition) (tree_of c.deref-in-If.result.now) (tree_of c.deref-in-If-2.result.now) _ _ _ _
    (ap tree_of c.in-If.is ∙ tree_if c.in-If.condition c.in-If.then c.in-If.otherwise ∙ ap₂ (λ u v. choose (condition_in c.in-If.condition) (tree_of u) (tree_of v)) (sym c.deref-in-If.ensures) (sym c.deref-in-If-2.ensures))
    c.in_ok-put_if_condition-in-If.ensures c.in_ok-put_block-in-If.ensures c.in_ok-put_else-in-If.ensures

pub put_lines-put_lines-requires : goal.put_lines-put_lines-requires
put_lines-put_lines-requires g t c κs within = (grind (the_lemmas, arith) steps 60000000, search rules)
