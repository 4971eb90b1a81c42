use Rattle.std.proofs.Common.{◌↔◌, ◌≡◌, subst, IsTrue, true, false}
use Rattle.frame_tree.specs.Tree.{Tree}
use Rattle.frame_tree.specs.Bounds.{IsInRange}
use Rattle.frame_tree.proofs.Trees.{left_first, left_none, seq_tree, in_range_fact, fact_more, fact_fails, fact_done}
use Rattle.frame_tree.proofs.Frame.+is_in_range.Goals as goal

pub loop-frame-preserved : goal.loop-frame-preserved
loop-frame-preserved g t c =
    let all = c.deref-frame-items.result.now in
    fact_more IsInRange in_range_fact _ _ _ _ (left_first all c.loop-frame.frame-index c.frame-item.result c.loop-frame-test.true c.frame-item.is) (c.is_in_range-in-loop-frame.ensures.0 c.if-not-is_in_range.false) c.loop-frame.invariant

pub returns-after-loop-frame : goal.returns-after-loop-frame
returns-after-loop-frame g t c =
    let all = c.deref-frame-items.result.now in
    let P : Tree → Type 0 = λ u. IsTrue true ↔ IsInRange u in
    subst P (seq_tree c.args.self.now c.in-Seq.frames all c.in-Seq.is c.deref-frame-items.ensures.value) (fact_done IsInRange in_range_fact _ _ (left_none all c.loop-frame.frame-index c.loop-frame-test.false) c.loop-frame.invariant)

pub returns-then-not-is_in_range : goal.returns-then-not-is_in_range
returns-then-not-is_in_range g t c =
    let all = c.deref-frame-items.result.now in
    let P : Tree → Type 0 = λ u. IsTrue false ↔ IsInRange u in
    subst P (seq_tree c.args.self.now c.in-Seq.frames all c.in-Seq.is c.deref-frame-items.ensures.value) (fact_fails IsInRange in_range_fact _ _ _ _ (left_first all c.loop-frame.frame-index c.frame-item.result c.loop-frame-test.true c.frame-item.is) (λ r. let yes_it : c.is_in_range-in-loop-frame.result ≡ true = c.is_in_range-in-loop-frame.ensures.1 r in absurd (cc)) c.loop-frame.invariant)
