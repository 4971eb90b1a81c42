use Rattle.std.proofs.Common.{min, ap, ◌∙◌, arith}
use Rattle.frame_tree.specs.Bounds.{depth_in}
use Rattle.frame_tree.specs.Scopes.{scope_of}
use Rattle.frame_tree.proofs.Trees.{left_first, left_none, seq_tree, depth_more, depth_done}
use Rattle.frame_tree.proofs.Frame.+depth_in.Goals as goal

pub loop-frame-preserved : goal.loop-frame-preserved
loop-frame-preserved g t c = record {
  capped = omega (arith, c.depth_in-in-loop-frame.ensures, c.max-deepest.ensures);
  least =
      let all = c.deref-frame-items.result.now in
      depth_more (scope_of c.args.scope.now) _ _ _ c.loop-frame.deepest _ _ _ (left_first all c.loop-frame.frame-index c.frame-item.result c.loop-frame-test.true c.frame-item.is) c.depth_in-in-loop-frame.ensures c.max-deepest.ensures c.loop-frame.invariant.least;
}

pub returns-after-loop-frame : goal.returns-after-loop-frame
returns-after-loop-frame g t c =
    let all = c.deref-frame-items.result.now in
    depth_done (scope_of c.args.scope.now) _ _ c.loop-frame.deepest (left_none all c.loop-frame.frame-index c.loop-frame-test.false) c.loop-frame.invariant.capped (c.loop-frame.invariant.least ∙ ap (λ u. min 17 (depth_in (scope_of c.args.scope.now) u)) (seq_tree c.args.self.now c.in-Seq.frames all c.in-Seq.is c.deref-frame-items.ensures.value))
