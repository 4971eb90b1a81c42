use Rattle.std.proofs.Common.{◌≡◌, ◌∷◌, sym, ap, ◌∙◌, arith, rules}
use Rattle.frame_tree.specs.declared.names.Scope.{the_lemmas}
use Rattle.frame_tree.specs.Tree.{tree_of}
use Rattle.frame_tree.specs.Scopes.{scope_of}
use Rattle.frame_tree.proofs.Trees.{left_first, left_none, seq_tree, tree_define}
use Rattle.bench_check.specs.Fitting.{most, ticks_in}
use Rattle.bench_check.proofs.Fitted.{ticks_more, ticks_done, ticks_cut}
use Rattle.bench_check.proofs.fitting.+ticks_in.Goals as goal

pub loop-one-preserved : goal.loop-one-preserved
loop-one-preserved g t c = record {
  capped = omega (arith, c.min-total.ensures);
  left =
      let all = c.deref-one-items.result.now in
      ticks_more c.args.gap (scope_of c.args.scope.now) _ _ _ c.loop-one.total _ _ _ (left_first all c.loop-one.one-index c.one-item.result c.loop-one-test.true c.one-item.is) c.ticks_in-in-loop-one.ensures (omega (arith, c.min-total.ensures)) c.loop-one.invariant.left;
}

pub returns-after-loop-one : goal.returns-after-loop-one
returns-after-loop-one g t c =
    let all = c.deref-one-items.result.now in
    ticks_done c.args.gap (scope_of c.args.scope.now) _ (tree_of c.args.frame.now) c.loop-one.total (left_none all c.loop-one.one-index c.loop-one-test.false) c.loop-one.invariant.capped (c.loop-one.invariant.left ∙ ap (λ u. most (ticks_in c.args.gap (scope_of c.args.scope.now) u)) (seq_tree c.args.frame.now c.in-Seq.frames all c.in-Seq.is c.deref-one-items.ensures.value))

pub returns-in-Define : goal.returns-in-Define
returns-in-Define g t c =
    let gap = c.args.gap in
    let ds = scope_of c.args.scope.now in
    let r = tree_of c.in-Define.rest.value in
    let count = c.ticks_in-in-Define.result in
    let body : count ≡ most (ticks_in gap ds (tree_of c.in-Define.body.value)) = c.ticks_in-in-Define.ensures ∙ ap (λ f. most (ticks_in gap ds (tree_of f))) c.deref-in-Define-2.ensures in
    let last : c.ticks_in-in-Define-2.result ≡ most (ticks_in gap ((c.in-Define.name, count) ∷ ds) (tree_of c.deref-in-Define.result.now)) = search (rules, the_lemmas) in
    last
    ∙ ap (λ f. most (ticks_in gap ((c.in-Define.name, count) ∷ ds) (tree_of f))) c.deref-in-Define.ensures
    ∙ ticks_cut gap c.in-Define.name count (tree_of c.in-Define.body.value) r ds body
    ∙ sym (ap (λ u. most (ticks_in gap ds u)) (ap tree_of c.in-Define.is ∙ tree_define c.in-Define.name c.in-Define.body c.in-Define.rest))
