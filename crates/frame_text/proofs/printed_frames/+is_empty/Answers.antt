use Rattle.std.proofs.Common.{sym, ap, ◌∙◌}
use Rattle.frame_tree.proofs.Trees.{left_first, left_none, seq_tree}
use Rattle.frame_text.specs.Printing.{is_empty}
use Rattle.frame_text.proofs.PrintedLines.{empty_more, empty_fails, empty_done}
use Rattle.frame_text.proofs.printed_frames.+is_empty.Goals as goal

pub loop-one-preserved : goal.loop-one-preserved
loop-one-preserved g t c =
    let all = c.deref-one-items.result.now in
    empty_more _ _ _ _ (left_first all c.loop-one.one-index c.one-item.result c.loop-one-test.true c.one-item.is) (sym c.if-not-is_empty.false ∙ c.is_empty.ensures) c.loop-one.invariant

pub returns-after-loop-one : goal.returns-after-loop-one
returns-after-loop-one g t c =
    let all = c.deref-one-items.result.now in
    empty_done _ _ (left_none all c.loop-one.one-index c.loop-one-test.false) (c.loop-one.invariant ∙ ap is_empty (seq_tree c.args.frame.now c.in-Seq.frames all c.in-Seq.is c.deref-one-items.ensures.value))

pub returns-then-not-is_empty : goal.returns-then-not-is_empty
returns-then-not-is_empty g t c =
    let all = c.deref-one-items.result.now in
    empty_fails _ _ _ _ (left_first all c.loop-one.one-index c.one-item.result c.loop-one-test.true c.one-item.is) c.if-not-is_empty.ensures (c.loop-one.invariant ∙ ap is_empty (seq_tree c.args.frame.now c.in-Seq.frames all c.in-Seq.is c.deref-one-items.ensures.value))
