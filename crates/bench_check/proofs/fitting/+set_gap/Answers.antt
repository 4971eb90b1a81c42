use Rattle.std.proofs.Common.{ap, ◌∙◌}
use Rattle.frame_tree.specs.Tree.{tree_of}
use Rattle.frame_tree.proofs.Trees.{left_first, left_none, seq_tree}
use Rattle.bench_check.specs.Fitting.{set_gap}
use Rattle.bench_check.proofs.Fitted.{gap_more, gap_done}
use Rattle.bench_check.proofs.fitting.+set_gap.Goals as goal

pub loop-one-preserved : goal.loop-one-preserved
loop-one-preserved g t c =
    let all = c.deref-one-items.result.now in
    gap_more _ _ _ c.loop-one.longest _ _ _ (left_first all c.loop-one.one-index c.one-item.result c.loop-one-test.true c.one-item.is) c.set_gap-in-loop-one.ensures c.max-longest.ensures c.loop-one.invariant

pub returns-after-loop-one : goal.returns-after-loop-one
returns-after-loop-one g t c =
    let all = c.deref-one-items.result.now in
    gap_done _ (tree_of c.args.frame.now) c.loop-one.longest (left_none all c.loop-one.one-index c.loop-one-test.false) (c.loop-one.invariant ∙ ap set_gap (seq_tree c.args.frame.now c.in-Seq.frames all c.in-Seq.is c.deref-one-items.ensures.value))
