use Rattle.std.proofs.Common.{◌≡◌, ◌∷◌, ◌++◌, ap, ◌∙◌, rules}
use Rattle.std.proofs.lemmas.Result.{on_ok_weaker}
use Rattle.frame_tree.specs.declared.names.Scope.{the_lemmas}
use Rattle.frame_tree.specs.Tree.{tree_of}
use Rattle.frame_tree.specs.Scopes.{scope_of}
use Rattle.frame_tree.proofs.Trees.{left_first, left_none, seq_tree, tree_define, tree_if}
use Rattle.bench_check.specs.Fitting.{most, ticks_in, frames_in}
use Rattle.bench_check.proofs.Fitted.{frames_more, frames_done, frames_joined, frames_timed, frames_cut, tree_timed}
use Rattle.bench_check.proofs.fitting.+add_frames.Goals as goal

pub loop-one-preserved : goal.loop-one-preserved
loop-one-preserved g t c =
    let all = c.deref-one-items.result.now in
    frames_more c.args.gap (scope_of c.args.scope.now) _ _ _ c.loop-one.found.items _ _ (left_first all c.loop-one.one-index c.one-item.result c.loop-one-test.true c.one-item.is) c.in_ok-add_frames-in-Seq.ensures c.loop-one.invariant

pub returns-after-loop-one : goal.returns-after-loop-one
returns-after-loop-one g t c =
    let all = c.deref-one-items.result.now in
    frames_done c.args.gap (scope_of c.args.scope.now) _ c.loop-one.found.items _ (left_none all c.loop-one.one-index c.loop-one-test.false) (c.loop-one.invariant ∙ ap (λ u. c.args.found.now.items ++ frames_in c.args.gap (scope_of c.args.scope.now) u) (seq_tree c.args.frame.now c.in-Seq.frames all c.in-Seq.is c.deref-one-items.ensures.value))

pub returns-in_ok-push-in-Timed : goal.returns-in_ok-push-in-Timed
returns-in_ok-push-in-Timed g t c =
    let gap = c.args.gap in
    let ds = scope_of c.args.scope.now in
    let b = tree_of c.in-Timed.body.value in
    on_ok_weaker c.add_frames.result (λ e.
    frames_timed gap ds (tree_of c.args.frame.now) b c.in-Timed.hundreds c.ticks_in-ticks.result c.args.found.now.items c.push.new.self.items c.add_frames.new.found.items
    (ap tree_of c.in-Timed.is ∙ tree_timed c.in-Timed.hundreds c.in-Timed.body)
    (c.ticks_in-ticks.ensures ∙ ap (λ f. most (ticks_in gap ds (tree_of f))) c.deref.ensures)
    c.in_ok-push-in-Timed.ensures.items
    (e ∙ ap (λ f. c.push.new.self.items ++ frames_in gap ds (tree_of f)) c.deref-in-Timed.ensures)) c.add_frames.ensures

pub returns-in_ok-add_frames-in-If : goal.returns-in_ok-add_frames-in-If
returns-in_ok-add_frames-in-If g t c =
    let gap = c.args.gap in
    let ds = scope_of c.args.scope.now in
    on_ok_weaker c.add_frames-in-If-2.result (λ e.
    frames_joined gap ds (tree_of c.args.frame.now) (frames_in gap ds (tree_of c.in-If.then.value)) (frames_in gap ds (tree_of c.in-If.otherwise.value)) c.args.found.now.items c.add_frames-in-If.new.found.items c.add_frames-in-If-2.new.found.items
    (ap (λ f. frames_in gap ds (tree_of f)) c.in-If.is ∙ ap (frames_in gap ds) (tree_if c.in-If.condition c.in-If.then c.in-If.otherwise))
    (c.in_ok-add_frames-in-If.ensures ∙ ap (λ f. c.args.found.now.items ++ frames_in gap ds (tree_of f)) c.deref-in-If.ensures)
    (e ∙ ap (λ f. c.add_frames-in-If.new.found.items ++ frames_in gap ds (tree_of f)) c.deref-in-If-2.ensures)) c.add_frames-in-If-2.ensures

pub returns-in_ok-add_frames-in-Define : goal.returns-in_ok-add_frames-in-Define
returns-in_ok-add_frames-in-Define g t c =
    let gap = c.args.gap in
    let ds = scope_of c.args.scope.now in
    let n = c.in-Define.name in
    let b = tree_of c.in-Define.body.value in
    let r = tree_of c.in-Define.rest.value in
    let count = c.ticks_in-ticks-in-Define.result in
    let mid = c.add_frames-in-Define.new.found.items in
    let body : count ≡ most (ticks_in gap ds b) = c.ticks_in-ticks-in-Define.ensures ∙ ap (λ f. most (ticks_in gap ds (tree_of f))) c.deref-in-Define-2.ensures in
    on_ok_weaker c.add_frames-in-Define-2.result (λ e.
    let last : c.add_frames-in-Define-2.new.found.items ≡ mid ++ frames_in gap ((n, count) ∷ ds) (tree_of c.deref-in-Define-3.result.now) = search (rules, the_lemmas) in
    frames_joined gap ds (tree_of c.args.frame.now) (frames_in gap ds b) (frames_in gap ((n, ticks_in gap ds b) ∷ ds) r) c.args.found.now.items mid c.add_frames-in-Define-2.new.found.items
    (ap (λ f. frames_in gap ds (tree_of f)) c.in-Define.is ∙ ap (frames_in gap ds) (tree_define n c.in-Define.body c.in-Define.rest))
    (c.in_ok-add_frames-in-Define.ensures ∙ ap (λ f. c.args.found.now.items ++ frames_in gap ds (tree_of f)) c.deref-in-Define.ensures)
    (last ∙ ap (λ f. mid ++ frames_in gap ((n, count) ∷ ds) (tree_of f)) c.deref-in-Define-3.ensures ∙ ap (λ fs. mid ++ fs) (frames_cut gap n count b r ds body))) c.add_frames-in-Define-2.ensures
