use Rattle.frame_tree.specs.Scopes.{scope_of}
use Rattle.std.proofs.Common.{length, sym, ap, ◌∙◌, Ok, arith}
use Rattle.std.proofs.lemmas.Result.{err_from_is_err_and}
use Rattle.frame_text.specs.Tokens.{tokens}
use Rattle.frame_text.specs.Frames.{main_at}
use Rattle.frame_text.proofs.Scripts.{onto_script, script_none, main_end, main_more, main_refused}
use Rattle.frame_text.proofs.definitions.main.Goals as goal

pub loop-word-init : goal.loop-word-init
loop-word-init g c = record {
  read = (length (tokens c.args.text.now), omega arith, script_none (g.B.Builder.row_trees c.in-Ok.value) _ c.in-Ok.ensures.row);
  fits = c.in-Ok.ensures.fits _ _;
}

pub loop-word-preserved : goal.loop-word-preserved
loop-word-preserved g c =
    let i = c.loop-word.invariant.read in
    let m = main_more (scope_of c.args.scope.now) i.0 c.in-Some.word.now (tokens c.loop-word.rest.now) _ (tokens c.in_ok-one.left.now) (g.B.Builder.row_trees c.loop-word.found) (g.B.Builder.tree c.in_ok-one.one) _ c.in-Some.ensures.tokens i.1 c.in_ok-one.ensures.made.0 c.in_ok-one.ensures.made.1 i.2 in
    record {
      read = (m.0, m.1, m.2 ∙ ap (λ fs. onto_script fs (main_at (scope_of c.args.scope.now) m.0 (tokens c.in_ok-one.left.now))) (sym c.in-Ok-more.ensures.row));
      fits = c.in-Ok-more.ensures.fits _ _ c.loop-word.invariant.fits c.in_ok-one.ensures.fits;
    }

pub returns-in_err-one-clause-tree : goal.returns-in_err-one-clause-tree
returns-in_err-one-clause-tree g c =
    let i = c.loop-word.invariant.read in
    let p = err_from_is_err_and c.from_residual.result c.from_residual.ensures.1 in
    rw (p.1, p.2) (main_refused _ c.in_err-one.field-0.0 (scope_of c.args.scope.now) i.0 c.in-Some.word.now (tokens c.loop-word.rest.now) _ (g.B.Builder.row_trees c.loop-word.found) _ c.in-Some.ensures.tokens i.1 c.in_err-one.ensures.made i.2)

pub returns-clause-tree : goal.returns-clause-tree
returns-clause-tree g c =
    let i = c.loop-word.invariant.read in
    main_end (scope_of c.args.scope.now) i.0 (tokens c.loop-word.rest.now) (g.B.Builder.row_trees c.loop-word.found) _ c.in_default.ensures.tokens i.2 ∙ ap Ok (sym c.whole.ensures.tree)
