use Rattle.std.proofs.Common.{◌≡◌, ◌<◌, ◌∙◌, List, length, take, ap, sym, subst, arith}
use Rattle.std.specs.Prelude.{Some, slice_get}
use Rattle.std.proofs.lemmas.List.{take_all}
use Rattle.std.proofs.lemmas.Option.{slice_get-get_or}
use Rattle.std.proofs.lemmas.Result.{err_from_is_err_and}
use Rattle.std.specs.Io.KnownBytes.{Appends}
use Rattle.judge_rules.specs.declared.rules.Rule.{Rule}
use Rattle.bench_dump.proofs.Steps.{appends_nothing}
use Rattle.bench_judge.specs.Lines.{rules_lines, verdict_lines}
use Rattle.bench_judge.specs.Streaming.{passed_of}
use Rattle.bench_judge.proofs.Rereading.{same_fault}
use Rattle.bench_judge.proofs.Writing.{rules-more}
use Rattle.bench_judge.proofs.passes.write_rules.Goals as goal

pub rules-preserved : goal.rules-preserved
rules-preserved g c file is read are =
    let within : c.rules.place < length c.args.rules.now = omega arith in
    let asked : slice_get c.args.rules.now c.rules.place ≡ Some c.index-rules-place.result =
    slice_get-get_or c.args.rules.now c.rules.place c.index-rules-place.result within ∙ ap (λ (r : Rule). Some r) (sym c.index-rules-place.is) in
    let one = are.each c.rules.place c.index-rules-place.result _ asked (slice_get-get_or c.args.verdicts.now c.rules.place _ (omega (arith, c.requires, within))) in
    rules-more c.args.skips.now c.args.rules.now c.rules.place c.index-rules-place.result (passed_of c.args.origins.now file) (g.W.Write.contents c.args.out.now) (g.W.Write.contents c.rules.out) (g.W.Write.contents c.write_rule.new.out) asked
    (c.rules.invariant file is read are) (c.in_ok-write_rule.ensures file is read one).1

pub returns-in_err-write_rule : goal.returns-in_err-write_rule
returns-in_err-write_rule g c file is read are =
    let within : c.rules.place < length c.args.rules.now = omega arith in
    let asked : slice_get c.args.rules.now c.rules.place ≡ Some c.index-rules-place.result =
    slice_get-get_or c.args.rules.now c.rules.place c.index-rules-place.result within ∙ ap (λ (r : Rule). Some r) (sym c.index-rules-place.is) in
    let one = are.each c.rules.place c.index-rules-place.result _ asked (slice_get-get_or c.args.verdicts.now c.rules.place _ (omega (arith, c.requires, within))) in
    let p = err_from_is_err_and c.from_residual.result c.from_residual.ensures.1 in
    rw (p.1, p.2) (same_fault (verdict_lines c.args.skips.now c.index-rules-place.result) (rules_lines c.args.skips.now c.args.rules.now) c.args.origins.now c.in_err-write_rule.field-0.0 file _ _ _ _ (c.in_err-write_rule.ensures file is read one))

pub returns : goal.returns
returns g c file is read are =
    let whole : take c.rules.place c.args.rules.now ≡ c.args.rules.now = take_all c.rules.place c.args.rules.now (omega (arith, c.rules-test.false)) in (
      read,
      subst (λ (rules : List Rule). Appends (g.W.Write.contents c.args.out.now) (g.W.Write.contents c.rules.out) (rules_lines c.args.skips.now rules (passed_of c.args.origins.now file))) whole (c.rules.invariant file is read are),
    )

pub rules-init : goal.rules-init
rules-init g c file is read are = appends_nothing (g.W.Write.contents c.args.out.now)
