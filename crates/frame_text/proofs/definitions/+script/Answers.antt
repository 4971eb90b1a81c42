use Rattle.std.proofs.Common.{Ok, sym, ap, ◌∙◌, subst, rules}
use Rattle.std.proofs.lemmas.Result.{err_from_is_err_and}
use Rattle.frame_tree.specs.Scopes.{scope_of}
use Rattle.frame_tree.specs.declared.names.Scope.{the_lemmas}
use Rattle.frame_text.specs.Tokens.{tokens}
use Rattle.frame_text.specs.Reading.{ReadsTokensInMemory}
use Rattle.frame_text.specs.declared.faults.Cause.TheVariants as cause
use Rattle.frame_text.proofs.Scripts.{breaks_with, full, no_definition, not_here, none_here}
use Rattle.frame_text.proofs.Soundness.{body_low}
use Rattle.frame_text.proofs.Defining.{name_fails, body_fails, rest_fails, all_read, not_cut}
use Rattle.frame_text.proofs.definitions.+script.Goals as goal

pub returns-in_default-clause-tree : goal.returns-in_default-clause-tree
returns-in_default-clause-tree g t c =
    subst (ReadsTokensInMemory g.B.Builder.refused g.B.Builder.tree c.main.result) (sym (no_definition c.args.left (scope_of c.args.scope.now) (tokens c.args.text.now) (none_here (tokens c.args.text.now) c.in_default.ensures.tokens))) c.main.ensures.tree

pub returns-then-not-is-clause-tree : goal.returns-then-not-is-clause-tree
returns-then-not-is-clause-tree g t c =
    subst (ReadsTokensInMemory g.B.Builder.refused g.B.Builder.tree c.main-then-not-is.result) (sym (no_definition c.args.left (scope_of c.args.scope.now) (tokens c.args.text.now) (not_here (tokens c.args.text.now) c.in-Some.word.now (tokens c.in-Some.rest.now) c.in-Some.ensures.tokens (sym c.is.ensures ∙ c.if-not-is.true)))) c.main-then-not-is.ensures.tree

pub returns-then-left-eq0-clause-tree : goal.returns-then-left-eq0-clause-tree
returns-then-left-eq0-clause-tree g t c =
    breaks_with _ c.fault.result cause.Definitions (tokens c.args.text.now) _ c.fault.ensures.is (full c.args.left (scope_of c.args.scope.now) c.in-Some.word.now (tokens c.args.text.now) (tokens c.in-Some.rest.now) c.in-Some.ensures.tokens (sym c.is.ensures ∙ c.if-not-is.false) c.if-left-eq0.true)

pub returns-in_err-name-clause-tree : goal.returns-in_err-name-clause-tree
returns-in_err-name-clause-tree g t c =
    let p = err_from_is_err_and c.from_residual.result c.from_residual.ensures.1 in
    rw (p.1, p.2) (name_fails c.args.left (scope_of c.args.scope.now) c.in-Some.word.now (tokens c.args.text.now) (tokens c.in-Some.rest.now) c.in-Some.ensures.tokens (sym c.is.ensures ∙ c.if-not-is.false) c.if-left-eq0.false _ c.in_err-name.field-0.0 c.in_err-name.ensures.tree c.in_err-name.ensures.of_text)

pub returns-in_err-body-clause-tree : goal.returns-in_err-body-clause-tree
returns-in_err-body-clause-tree g t c =
    let p = err_from_is_err_and c.from_residual-in_err-body.result c.from_residual-in_err-body.ensures.1 in
    rw (p.1, p.2) (body_fails c.args.left (scope_of c.args.scope.now) c.in-Some.word.now (tokens c.args.text.now) (tokens c.in-Some.rest.now) c.in-Some.ensures.tokens (sym c.is.ensures ∙ c.if-not-is.false) c.if-left-eq0.false _ c.in_err-body.field-0.0 c.in_ok-name.name (tokens c.in_ok-name.rest.now) c.in_ok-name.ensures.tree c.in_err-body.ensures.made)

pub returns-in_err-others-clause-tree : goal.returns-in_err-others-clause-tree
returns-in_err-others-clause-tree g t c =
    let p = err_from_is_err_and c.from_residual-in_err-others.result c.from_residual-in_err-others.ensures.1 in
    let ds = scope_of c.args.scope.now in
    let body = g.B.Builder.tree c.in_ok-body.body in
    let low = body_low ds (tokens c.in_ok-name.rest.now) (body, tokens c.in_ok-body.rest.now) c.in_ok-body.ensures.made.0 in
    rw (p.1, p.2) (rest_fails c.args.left ds c.in-Some.word.now (tokens c.args.text.now) (tokens c.in-Some.rest.now) c.in-Some.ensures.tokens (sym c.is.ensures ∙ c.if-not-is.false) c.if-left-eq0.false _ c.in_err-others.field-0.0 c.in_ok-name.name (tokens c.in_ok-name.rest.now) (tokens c.in_ok-body.rest.now) body _
    c.in_ok-name.ensures.tree c.in_ok-body.ensures.made.0 (search (rules, the_lemmas) ∙ not_cut c.in_ok-name.name c.depth-depth.result _ ds (c.depth-depth.ensures _ c.in_ok-body.ensures.fits) low) c.in_err-others.ensures.tree)

pub returns-clause-tree : goal.returns-clause-tree
returns-clause-tree g t c =
    let ds = scope_of c.args.scope.now in
    let body = g.B.Builder.tree c.in_ok-body.body in
    let low = body_low ds (tokens c.in_ok-name.rest.now) (body, tokens c.in_ok-body.rest.now) c.in_ok-body.ensures.made.0 in
    all_read c.args.left ds c.in-Some.word.now (tokens c.args.text.now) (tokens c.in-Some.rest.now) c.in-Some.ensures.tokens (sym c.is.ensures ∙ c.if-not-is.false) c.if-left-eq0.false c.in_ok-name.name (tokens c.in_ok-name.rest.now) (tokens c.in_ok-body.rest.now) body (g.B.Builder.tree c.in_ok-others.others) _
    c.in_ok-name.ensures.tree c.in_ok-body.ensures.made.0 (search (rules, the_lemmas) ∙ not_cut c.in_ok-name.name c.depth-depth.result _ ds (c.depth-depth.ensures _ c.in_ok-body.ensures.fits) low) c.in_ok-others.ensures.tree
    ∙ ap Ok (sym c.in-Ok.ensures.tree)
