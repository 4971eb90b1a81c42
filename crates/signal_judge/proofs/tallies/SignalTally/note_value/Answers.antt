use Rattle.std.proofs.Common.{◌≡◌, ◌∙◌, ◌∷◌, ap, arith, Bool}
use Rattle.std.specs.Prelude.{not}
use Rattle.bench_judge.specs.Tallies as plain
use Rattle.bench_select.specs.Viewed.{Viewed}
use Rattle.signal_values.specs.Readings.{value_of}
use Rattle.signal_judge.specs.Tallies.{chosen}
use Rattle.signal_judge.specs.Verdicts.{meets}
use Rattle.signal_judge.proofs.Chosen.{chosen-take}
use Rattle.signal_judge.proofs.Tallying.{by_asked, counted-more, counted_same, few_chosen, if_ok, messages_told, met_between, met_step, met_told, of_asked, step-latest}
use Rattle.signal_judge.proofs.tallies.SignalTally.note_value.Goals as goal

pub returns-in-OfMessages-clause-told : goal.returns-in-OfMessages-clause-told
returns-in-OfMessages-clause-told c = λ history tally.
    let r = c.args.rule.now in
    let origins = c.args.origins.now in
    if_ok (λ (told : Bool). told ≡ plain.misses_next r.rule origins (chosen r origins history) (c.args.channel, c.args.view.now)) (λ (told : Bool). told ≡ not (meets r origins history c.args.channel c.args.view.now)) c.note.result
    (λ told next. messages_told r origins history c.args.channel c.args.view.now told c.in-OfMessages.is c.requires.selected next)
    (c.note.ensures.told (chosen r origins history) (of_asked r origins history c.args.self.now _ c.in-OfMessages.is tally))

pub returns-in-OfMessages-clause-noted : goal.returns-in-OfMessages-clause-noted
returns-in-OfMessages-clause-noted c = λ history tally small.
    let r = c.args.rule.now in
    let origins = c.args.origins.now in
    let few = few_chosen r origins history in
    rw (c.in-OfMessages.is, chosen-take r origins (c.args.channel, c.args.view.now) history c.requires.selected)
    (c.note.ensures.noted (chosen r origins history) (of_asked r origins history c.args.self.now _ c.in-OfMessages.is tally) (omega (arith, few, small)))

pub returns-in-Between-clause-told : goal.returns-in-Between-clause-told
returns-in-Between-clause-told c = λ history tally.
    c.count.ensures.missed ∙ ap not (met_between c.args.rule.now c.args.origins.now _ _ history c.args.channel c.args.view.now (value_of c.args.value) c.is_between.result c.in-Between.is c.requires.value c.is_between.ensures)

pub returns-in-Between-clause-noted : goal.returns-in-Between-clause-noted
returns-in-Between-clause-noted c = λ history tally small.
    let r = c.args.rule.now in
    let origins = c.args.origins.now in
    let h : Viewed = (c.args.channel, c.args.view.now) in
    by_asked r origins (h ∷ history) c.count.new.self _ c.in-Between.is
    (counted-more r origins h history c.args.self.now c.count.new.self c.is_between.result c.requires.selected
    (met_between r origins _ _ history c.args.channel c.args.view.now (value_of c.args.value) c.is_between.result c.in-Between.is c.requires.value c.is_between.ensures)
    (of_asked r origins history c.args.self.now _ c.in-Between.is tally) small c.count.ensures.selected c.count.ensures.kinds c.count.ensures.counted)

pub returns-in_ok-told-in-Told-clause-told : goal.returns-in_ok-told-in-Told-clause-told
returns-in_ok-told-in-Told-clause-told c = λ history tally.
    let told = c.in_ok-told-in-Told.told in
    c.count-in-Told.ensures.missed
    ∙ ap not (met_told c.args.rule.now c.args.origins.now _ history c.args.channel c.args.view.now (value_of c.args.value) told c.in-Told.is c.requires.value (rw c.as_slice.ensures.value at c.in_ok-told-in-Told.ensures.told))

pub returns-in_ok-told-in-Told-clause-noted : goal.returns-in_ok-told-in-Told-clause-noted
returns-in_ok-told-in-Told-clause-noted c = λ history tally small.
    let r = c.args.rule.now in
    let origins = c.args.origins.now in
    let h : Viewed = (c.args.channel, c.args.view.now) in
    let told = c.in_ok-told-in-Told.told in
    by_asked r origins (h ∷ history) c.count-in-Told.new.self _ c.in-Told.is
    (counted-more r origins h history c.is_told.new.self c.count-in-Told.new.self told c.requires.selected
    (met_told r origins _ history c.args.channel c.args.view.now (value_of c.args.value) told c.in-Told.is c.requires.value (rw c.as_slice.ensures.value at c.in_ok-told-in-Told.ensures.told))
    (counted_same r origins history c.args.self.now c.is_told.new.self c.is_told.ensures.plain (of_asked r origins history c.args.self.now _ c.in-Told.is tally))
    small c.count-in-Told.ensures.selected c.count-in-Told.ensures.kinds c.count-in-Told.ensures.counted)

pub returns-in_ok-step-in-Step-clause-told : goal.returns-in_ok-step-in-Step-clause-told
returns-in_ok-step-in-Step-clause-told c = λ history tally.
    let r = c.args.rule.now in
    let origins = c.args.origins.now in
    let t = of_asked r origins history c.args.self.now _ c.in-Step.is tally in
    c.count-in-Step.ensures.missed
    ∙ ap not (met_step r origins _ history c.args.channel c.args.view.now (value_of c.args.value) _ c.in_ok-step-in-Step.step c.in-Step.is c.requires.value (t.1 c.args.channel) c.in_ok-step-in-Step.ensures.step)

pub returns-in_ok-step-in-Step-clause-noted : goal.returns-in_ok-step-in-Step-clause-noted
returns-in_ok-step-in-Step-clause-noted c = λ history tally small.
    let r = c.args.rule.now in
    let origins = c.args.origins.now in
    let h : Viewed = (c.args.channel, c.args.view.now) in
    let t = of_asked r origins history c.args.self.now _ c.in-Step.is tally in
    let met = met_step r origins _ history c.args.channel c.args.view.now (value_of c.args.value) _ c.in_ok-step-in-Step.step c.in-Step.is c.requires.value (t.1 c.args.channel) c.in_ok-step-in-Step.ensures.step in
    by_asked r origins (h ∷ history) c.count-in-Step.new.self _ c.in-Step.is (
      counted-more r origins h history c.is_step.new.self c.count-in-Step.new.self c.in_ok-step-in-Step.step c.requires.selected met
          (counted_same r origins history c.args.self.now c.is_step.new.self c.is_step.ensures.plain t.0) small c.count-in-Step.ensures.selected c.count-in-Step.ensures.kinds c.count-in-Step.ensures.counted,
      step-latest r origins h history (value_of c.args.value) c.args.self.now c.is_step.new.self c.count-in-Step.new.self c.requires.selected c.requires.value t.1 c.in_ok-step-in-Step.ensures.latest c.count-in-Step.ensures.latest,
    )
