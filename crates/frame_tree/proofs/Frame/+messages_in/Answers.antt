use Rattle.std.proofs.Common.{◌≡◌, ◌∷◌, sym, min, ap, ◌∙◌, arith, rules}
use Rattle.frame_tree.specs.declared.names.Scope.{the_lemmas}
use Rattle.frame_tree.specs.Bounds.{messages_in}
use Rattle.frame_tree.specs.Tree.{tree_of}
use Rattle.frame_tree.specs.Scopes.{scope_of}
use Rattle.frame_tree.proofs.Trees.{left_first, left_none, seq_tree, tree_define, messages_more, messages_done}
use Rattle.frame_tree.proofs.Capped.{messages_cut}
use Rattle.frame_tree.proofs.Frame.+messages_in.Goals as goal

pub loop-frame-preserved : goal.loop-frame-preserved
loop-frame-preserved g t c = record {
  capped = omega (arith, c.min-total.ensures);
  left =
      let all = c.deref-frame-items.result.now in
      messages_more (scope_of c.args.scope.now) _ _ _ c.loop-frame.total _ _ _ (left_first all c.loop-frame.frame-index c.frame-item.result c.loop-frame-test.true c.frame-item.is) c.messages_in-in-loop-frame.ensures c.min-total.ensures c.loop-frame.invariant.left;
}

pub returns-after-loop-frame : goal.returns-after-loop-frame
returns-after-loop-frame g t c =
    let all = c.deref-frame-items.result.now in
    messages_done (scope_of c.args.scope.now) _ (tree_of c.args.self.now) c.loop-frame.total (left_none all c.loop-frame.frame-index c.loop-frame-test.false) c.loop-frame.invariant.capped (c.loop-frame.invariant.left ∙ ap (λ u. min 1000001 (messages_in (scope_of c.args.scope.now) u)) (seq_tree c.args.self.now c.in-Seq.frames all c.in-Seq.is c.deref-frame-items.ensures.value))

pub returns-in-Define : goal.returns-in-Define
returns-in-Define g t c =
    let ds = scope_of c.args.scope.now in
    let r = tree_of c.in-Define.rest.value in
    let count = c.messages_in-in-Define.result in
    let body : count ≡ min 1000001 (messages_in ds (tree_of c.in-Define.body.value)) = c.messages_in-in-Define.ensures ∙ ap (λ f. min 1000001 (messages_in ds (tree_of f))) c.deref-in-Define-2.ensures in
    let last : c.messages_in-in-Define-2.result ≡ min 1000001 (messages_in ((c.in-Define.name, count) ∷ ds) (tree_of c.deref-in-Define.result.now)) = search (rules, the_lemmas) in
    last
    ∙ ap (λ f. min 1000001 (messages_in ((c.in-Define.name, count) ∷ ds) (tree_of f))) c.deref-in-Define.ensures
    ∙ messages_cut c.in-Define.name count (tree_of c.in-Define.body.value) r ds body
    ∙ sym (ap (λ u. min 1000001 (messages_in ds u)) (ap tree_of c.in-Define.is ∙ tree_define c.in-Define.name c.in-Define.body c.in-Define.rest))
