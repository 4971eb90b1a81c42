use Rattle.std.proofs.Common.{◌↔◌, ◌≡◌, subst, IsTrue, true, false}
use Rattle.frame_tree.specs.Tree.{Tree}
use Rattle.frame_tree.specs.Bounds.{CallsKnown}
use Rattle.frame_tree.specs.Scopes.{scope_of}
use Rattle.frame_tree.proofs.Trees.{left_from, left_first, left_none, seq_tree, calls_fact, fact_more, fact_fails, fact_done}
use Rattle.frame_tree.proofs.Frame.+calls_known.Goals as goal

pub loop-frame-preserved : goal.loop-frame-preserved
loop-frame-preserved g t c =
    let all = c.deref-frame-items.result.now in
    fact_more (CallsKnown (scope_of c.args.scope.now)) (calls_fact (scope_of c.args.scope.now)) _ _ _ _ (left_first all c.loop-frame.frame-index c.frame-item.result c.loop-frame-test.true c.frame-item.is) (c.calls_known-in-loop-frame.ensures.0 c.if-not-calls_known.false) c.loop-frame.invariant

pub returns-after-loop-frame : goal.returns-after-loop-frame
returns-after-loop-frame g t c =
    let all = c.deref-frame-items.result.now in
    let P : Tree → Type 0 = λ u. IsTrue true ↔ CallsKnown (scope_of c.args.scope.now) u in
    subst P (seq_tree c.args.self.now c.in-Seq.frames all c.in-Seq.is c.deref-frame-items.ensures.value) (fact_done (CallsKnown (scope_of c.args.scope.now)) (calls_fact (scope_of c.args.scope.now)) _ (left_from 0 c.deref-frame-items.result.now) (left_none all c.loop-frame.frame-index c.loop-frame-test.false) c.loop-frame.invariant)

pub returns-then-not-calls_known : goal.returns-then-not-calls_known
returns-then-not-calls_known g t c =
    let all = c.deref-frame-items.result.now in
    let P : Tree → Type 0 = λ u. IsTrue false ↔ CallsKnown (scope_of c.args.scope.now) u in
    subst P (seq_tree c.args.self.now c.in-Seq.frames all c.in-Seq.is c.deref-frame-items.ensures.value) (fact_fails (CallsKnown (scope_of c.args.scope.now)) (calls_fact (scope_of c.args.scope.now)) _ _ _ (left_from 0 c.deref-frame-items.result.now) (left_first all c.loop-frame.frame-index c.frame-item.result c.loop-frame-test.true c.frame-item.is) (λ r. let yes_it : c.calls_known-in-loop-frame.result ≡ true = c.calls_known-in-loop-frame.ensures.1 r in absurd (cc)) c.loop-frame.invariant)
