use Rattle.std.proofs.Common.{◌≡◌, ℕ, ◌+◌, List, [], ◌∷◌, ◌++◌, sym, ap, ap₂, ◌∙◌, append_assoc, arith, map}
use Rattle.std.specs.List.{range_with_len}
use Rattle.std.specs.Option.{is_none}
use Rattle.std.proofs.lemmas.Simd.{map-map}
use Rattle.std.proofs.lemmas.List.FromFn.{map-range_with_len_more}
use Rattle.std.proofs.lemmas.Result.{err_from_is_err_and}
use Rattle.mil_line.specs.Plans.{Planned}
use Rattle.job_file.specs.HeadLines.{Head}
use Rattle.job_file.specs.Drafts.{shown}
use Rattle.job_file.specs.Spans.{span_count, span_number, numbers_of}
use Rattle.job_file.proofs.SpanLemmas.{may_plan_all_is}
use Rattle.job_file.proofs.drafts.Draft.plan_each.Goals as goal

pub loop-before-preserved : goal.loop-before-preserved
loop-before-preserved c =
    let k = c.loop-before.before in
    let plan = c.args.self.now.plan in
    let at : ℕ → Planned = λ i. (span_number c.args.span i, c.args.fault) in
    let was : c.loop-before.self.plan ≡ plan ++ map at (range_with_len 0 k) = ap (λ (h : Head). h.plan) c.loop-before.invariant in
    let more : c.add.new.self ≡ plan ++ map at (range_with_len 0 (k + 1)) =
    c.in-Ok.ensures.ok
    ∙ ap₂ (λ (ps : List Planned) (n : ℕ). ps ++ (n, c.args.fault) ∷ []) was c.number.ensures.value
    ∙ append_assoc plan (map at (range_with_len 0 k)) (at k ∷ [])
    ∙ ap (λ ps. plan ++ ps) (sym (map-range_with_len_more at 0 k k (omega arith))) in
    ap₂ (λ (h : Head) (ps : List Planned). record h { plan = ps }) c.loop-before.invariant more

pub returns-clause-planned : goal.returns-clause-planned
returns-clause-planned c =
    let plan = c.args.self.now.plan in
    let all : c.loop-before.before ≡ c.count-before-end.result = omega (arith, c.loop-before-test.false, c.loop-before.auto.before-end) in
    let at : ℕ → Planned = λ n. (n, c.args.fault) in
    c.loop-before.invariant
    ∙ ap (λ (ps : List Planned). record (shown c.args.self.now) { plan = plan ++ ps })
    (ap (λ n. map (λ i. at (span_number c.args.span i)) (range_with_len 0 n)) (all ∙ c.count-before-end.ensures.value)
    ∙ sym (map-map at (span_number c.args.span) (range_with_len 0 (span_count c.args.span))))

pub returns-in_err-may_plan_all-clause-stands : goal.returns-in_err-may_plan_all-clause-stands
returns-in_err-may_plan_all-clause-stands c =
    let p = err_from_is_err_and c.from_residual.result c.from_residual.ensures.1 in
    rw (p.1, p.2) (may_plan_all_is c.args.self.now.plan c.args.fault (numbers_of c.args.span) ∙ ap is_none c.in_err-may_plan_all.ensures.wrong)

pub returns-clause-stands : goal.returns-clause-stands
returns-clause-stands c =
    may_plan_all_is c.args.self.now.plan c.args.fault (numbers_of c.args.span) ∙ ap is_none c.in_ok-may_plan_all.ensures.fine
