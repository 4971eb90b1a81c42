use Rattle.std.proofs.Common.{◌≡◌, [], drop, sym, subst, ◌∙◌}
use Rattle.std.specs.Prelude.{IfSome, IfNone}
use Rattle.bc_machine.specs.Agendas.{inserts_among}
use Rattle.bc_machine.specs.Asking.{IsInsertAt}
use Rattle.bc_machine.proofs.Asked.{placed_alone}
use Rattle.bc_machine.proofs.schedule.Schedule.insert_at.Goals as goal

pub returns-then-alone-clause-there : goal.returns-then-alone-clause-there
returns-then-alone-clause-there c =
    let rows = c.rows_at-alone.result.0.now in
    let beside = c.rows_at-alone.result.1.now.lists in
    subst (λ ps. IfSome c.insert_from.result (λ x. IsInsertAt ps c.args.passed x.0 x.1))
    (sym (placed_alone c.args.number beside rows (c.rows_at-alone.ensures.alone c.if-alone.true)) ∙ c.rows_at-alone.ensures.same) c.insert_from.ensures.there

pub returns-then-alone-clause-none : goal.returns-then-alone-clause-none
returns-then-alone-clause-none c =
    let rows = c.rows_at-alone.result.0.now in
    let beside = c.rows_at-alone.result.1.now.lists in
    subst (λ ps. IfNone c.insert_from.result (inserts_among (drop c.args.passed ps) ≡ []))
    (sym (placed_alone c.args.number beside rows (c.rows_at-alone.ensures.alone c.if-alone.true)) ∙ c.rows_at-alone.ensures.same) c.insert_from.ensures.none

pub returns-clause-there : goal.returns-clause-there
returns-clause-there c =
    subst (λ ps. IfSome c.insert_among.result (λ x. IsInsertAt ps c.args.passed x.0 x.1)) c.rows_at-alone.ensures.same c.insert_among.ensures.there

pub returns-clause-none : goal.returns-clause-none
returns-clause-none c =
    subst (λ ps. IfNone c.insert_among.result (inserts_among (drop c.args.passed ps) ≡ [])) c.rows_at-alone.ensures.same c.insert_among.ensures.none
