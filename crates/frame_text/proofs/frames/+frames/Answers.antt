use Rattle.frame_tree.specs.Scopes.{scope_of}
use Rattle.std.proofs.Common.{length, sym, ap, ◌∙◌, arith}
use Rattle.std.proofs.lemmas.Result.{err_from_is_err_and}
use Rattle.frame_text.specs.Tokens.{tokens}
use Rattle.frame_text.specs.Frames.{frames_at, frame_at}
use Rattle.frame_text.specs.declared.faults.Cause.TheVariants as cause
use Rattle.frame_text.proofs.Scripts.{onto, onto_none, frames_end, frames_close, frames_more, frames_refused, breaks_with}
use Rattle.frame_text.proofs.frames.+frames.Goals as goal

pub frames-loop-word-init : goal.frames-loop-word-init
frames-loop-word-init g t c = record {
  read = (length (tokens c.args.text.now), omega arith, onto_none (g.B.Builder.row_trees c.in-Ok.value) _ c.in-Ok.ensures.row);
  fewer = omega arith;
  fits = c.in-Ok.ensures.fits _ _;
}

pub frames-returns-then-is-clause-made : goal.frames-returns-then-is-clause-made
frames-returns-then-is-clause-made g t c =
    let i = c.loop-word.invariant.read in (
      frames_close (frame_at (scope_of c.args.around.now.scope.now) c.args.around.now.depth) i.0 c.in-Some.word.now (tokens c.loop-word.rest.now) (tokens c.in-Some.after.now) (g.B.Builder.row_trees c.loop-word.found) _ c.in-Some.ensures.tokens i.1 (sym c.is.ensures ∙ c.if-is.true) i.2,
      omega (arith, ap length c.in-Some.ensures.tokens, c.loop-word.invariant.fewer),
    )

pub frames-returns-clause-made : goal.frames-returns-clause-made
frames-returns-clause-made g t c =
    let i = c.loop-word.invariant.read in
    breaks_with _ c.fault.result cause.End (tokens c.loop-word.rest.now) _ c.fault.ensures.is (frames_end (frame_at (scope_of c.args.around.now.scope.now) c.args.around.now.depth) i.0 (tokens c.loop-word.rest.now) (g.B.Builder.row_trees c.loop-word.found) _ c.in_default.ensures.tokens i.2)

pub frames-returns-in_err-one-clause-made : goal.frames-returns-in_err-one-clause-made
frames-returns-in_err-one-clause-made g t c =
    let i = c.loop-word.invariant.read in
    let p = err_from_is_err_and c.from_residual.result c.from_residual.ensures.1 in
    rw (p.1, p.2) (frames_refused _ c.in_err-one.field-0.0 (frame_at (scope_of c.args.around.now.scope.now) c.args.around.now.depth) i.0 c.in-Some.word.now (tokens c.loop-word.rest.now) (tokens c.in-Some.after.now) (g.B.Builder.row_trees c.loop-word.found) _ c.in-Some.ensures.tokens i.1 (sym c.is.ensures ∙ c.if-is.false) c.in_err-one.ensures.made i.2)

pub frames-loop-word-preserved : goal.frames-loop-word-preserved
frames-loop-word-preserved g t c =
    let i = c.loop-word.invariant.read in
    let m = frames_more (frame_at (scope_of c.args.around.now.scope.now) c.args.around.now.depth) i.0 c.in-Some.word.now (tokens c.loop-word.rest.now) (tokens c.in-Some.after.now) (tokens c.in_ok-one.left.now) (g.B.Builder.row_trees c.loop-word.found) (g.B.Builder.tree c.in_ok-one.one) _ c.in-Some.ensures.tokens i.1 (sym c.is.ensures ∙ c.if-is.false) c.in_ok-one.ensures.made.0 c.in_ok-one.ensures.made.1 i.2 in
    record {
      read = (m.0, m.1, m.2 ∙ ap (λ fs. onto fs (frames_at (frame_at (scope_of c.args.around.now.scope.now) c.args.around.now.depth) m.0 (tokens c.in_ok-one.left.now))) (sym c.in-Ok-more.ensures.row));
      fewer = omega (arith, c.in_ok-one.ensures.made.1, c.loop-word.invariant.fewer);
      fits = c.in-Ok-more.ensures.fits _ _ c.loop-word.invariant.fits c.in_ok-one.ensures.fits;
    }
