use Rattle.std.proofs.Common.{◌≡◌, ◌<◌, sym, ap, subst, ◌∙◌, arith, map}
use Rattle.std.specs.Prelude.{Some}
use Rattle.std.specs.List.{range_with_len}
use Rattle.std.proofs.lemmas.Result.{err_from_is_err_and}
use Rattle.std.proofs.lemmas.Simd.{map-map}
use Rattle.job_file.specs.Faults.{plan_fault, first_fault}
use Rattle.job_file.specs.Spans.{span_count, span_number}
use Rattle.job_file.proofs.SpanLemmas.{fine_more, wrong_at}
use Rattle.job_file.proofs.drafts.Draft.may_plan_all.Goals as goal

pub returns-in_err-may_plan-clause-wrong : goal.returns-in_err-may_plan-clause-wrong
returns-in_err-may_plan-clause-wrong c =
    let judge = plan_fault c.args.self.now.plan c.args.fault.now in
    let why = c.in_err-may_plan.field-0.0 in
    let p = err_from_is_err_and c.from_residual.result c.from_residual.ensures.1 in
    let here : judge (span_number c.args.span c.loop-before.before) ≡ Some why = ap judge (sym c.number.ensures.value) ∙ c.in_err-may_plan.ensures.wrong in
    let below : c.loop-before.before < span_count c.args.span = subst (λ n. c.loop-before.before < n) c.count-before-end.ensures.value c.loop-before-test.true in
    rw (p.1, p.2)
    (ap first_fault (map-map judge (span_number c.args.span) (range_with_len 0 (span_count c.args.span)))
    ∙ wrong_at (λ k. judge (span_number c.args.span k)) c.loop-before.before (span_count c.args.span) why below c.loop-before.invariant here)

pub loop-before-preserved : goal.loop-before-preserved
loop-before-preserved c =
    let judge = plan_fault c.args.self.now.plan c.args.fault.now in
    fine_more (λ k. judge (span_number c.args.span k)) c.loop-before.before c.loop-before.invariant (ap judge (sym c.number.ensures.value) ∙ c.in_ok-may_plan.ensures.fine)

pub returns-clause-fine : goal.returns-clause-fine
returns-clause-fine c =
    let judge = plan_fault c.args.self.now.plan c.args.fault.now in
    let all : c.loop-before.before ≡ c.count-before-end.result = omega (arith, c.loop-before-test.false, c.loop-before.auto.before-end) in
    ap first_fault (map-map judge (span_number c.args.span) (range_with_len 0 (span_count c.args.span)))
    ∙ ap (λ n. first_fault (map (λ k. judge (span_number c.args.span k)) (range_with_len 0 n))) (sym (all ∙ c.count-before-end.ensures.value))
    ∙ c.loop-before.invariant
