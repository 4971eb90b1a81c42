use Rattle.std.proofs.Common.{◌≡◌, ◌+◌, ◌<◌, ◌∙◌, List, length, ap, sym, subst, arith}
use Rattle.std.specs.Prelude.{Some, slice_get}
use Rattle.std.proofs.lemmas.Option.{slice_get-get_or}
use Rattle.bench_judge.specs.declared.verdicts.RuleVerdict.{RuleVerdict}
use Rattle.signal_judge.specs.declared.rules.SignalRule.{SignalRule}
use Rattle.signal_judge.specs.declared.tallies.SignalTally.{SignalTally}
use Rattle.signal_judge.proofs.Whole.{AreJudged, judged_none, judged_more, judged_all}
use Rattle.signal_judge.proofs.judging.verdicts_of.Goals as goal

pub rules-init : goal.rules-init
rules-init c = rw c.in_ok-verdicts.ensures.items (judged_none _ _)

pub rules-preserved : goal.rules-preserved
rules-preserved c =
    let within : c.rules.place < length c.args.rules.now = omega arith in
    let inside : c.rules.place < length c.args.tallies.now = omega (arith, c.requires, within) in
    let asked : slice_get c.args.rules.now c.rules.place ≡ Some c.index-rules-place.result =
    slice_get-get_or c.args.rules.now c.rules.place c.index-rules-place.result within ∙ ap (λ (r : SignalRule). Some r) (sym c.index-rules-place.is) in
    let found : slice_get c.args.tallies.now c.rules.place ≡ Some c.index-tallies-place.result =
    slice_get-get_or c.args.tallies.now c.rules.place c.index-tallies-place.result inside ∙ ap (λ (t : SignalTally). Some t) (sym c.index-tallies-place.is) in
    subst (λ (vs : List RuleVerdict). AreJudged c.args.rules.now c.args.tallies.now vs (c.rules.place + 1)) (sym c.in_ok-push.ensures.items)
    (judged_more _ _ _ c.rules.place c.index-rules-place.result c.index-tallies-place.result c.verdict.result c.rules.invariant asked found c.verdict.ensures)

pub returns : goal.returns
returns c = λ origins history are. judged_all _ origins _ _ c.rules.place history c.rules.invariant (omega (arith, c.rules-test.false)) are
