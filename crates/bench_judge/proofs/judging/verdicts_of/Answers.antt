use Rattle.std.proofs.Common.{◌≡◌, ◌+◌, ◌<◌, ◌∙◌, List, ap, sym, subst, arith, length}
use Rattle.std.specs.Prelude.{Some, slice_get}
use Rattle.std.proofs.lemmas.Option.{slice_get-get_or}
use Rattle.judge_rules.specs.declared.rules.Rule.{Rule}
use Rattle.bench_judge.specs.declared.packets.PacketTally.{PacketTally}
use Rattle.bench_judge.specs.declared.tallies.Tally.{Tally}
use Rattle.bench_judge.specs.declared.verdicts.RuleVerdict.{RuleVerdict}
use Rattle.bench_judge.proofs.Whole.{IsJudging, judging-none, judging-more, judging-all, verdict_on}
use Rattle.bench_judge.proofs.judging.verdicts_of.Goals as goal

pub rules-init : goal.rules-init
rules-init c = λ p are wholes. rw c.in_ok-verdicts.ensures.items (judging-none _ p)

pub rules-preserved : goal.rules-preserved
rules-preserved c = λ p are wholes.
    let within : c.rules.place < length c.args.rules.now = omega arith in
    let asked : slice_get c.args.rules.now c.rules.place ≡ Some c.index-rules-place.result =
    slice_get-get_or c.args.rules.now c.rules.place c.index-rules-place.result within ∙ ap (λ (r : Rule). Some r) (sym c.index-rules-place.is) in
    let counted : slice_get c.args.tallies.items c.rules.place ≡ Some c.index.result.now =
    slice_get-get_or c.args.tallies.items c.rules.place c.index.result.now (omega (arith, c.requires.messages, within)) ∙ ap (λ (t : Tally). Some t) (sym c.index.ensures) in
    let listed : slice_get c.args.wholes.items c.rules.place ≡ Some c.index-in-rules.result.now =
    slice_get-get_or c.args.wholes.items c.rules.place c.index-in-rules.result.now (omega (arith, c.requires.packets, within)) ∙ ap (λ (t : PacketTally). Some t) (sym c.index-in-rules.ensures) in
    let messages = are.each c.rules.place c.index-rules-place.result c.index.result.now asked counted in
    let packets = wholes.each c.rules.place c.index-rules-place.result c.index-in-rules.result.now asked listed in
    subst (λ (vs : List RuleVerdict). IsJudging c.args.rules.now p vs (c.rules.place + 1)) (sym c.in_ok-push.ensures.items)
    (judging-more c.args.rules.now p c.rules.verdicts.items c.rules.place c.index-rules-place.result c.verdict_with.result (c.rules.invariant p are wholes) asked (verdict_on c.index-rules-place.result p c.index.result.now c.index-in-rules.result.now c.verdict_with.result messages packets c.verdict_with.ensures))

pub returns : goal.returns
returns c = λ p are wholes. judging-all _ p _ _ (omega (arith, c.rules-test.false)) (c.rules.invariant p are wholes)
