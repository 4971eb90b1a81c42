use Rattle.std.proofs.Common.{◌≡◌, Bool, sym}
use Rattle.std.specs.Prelude.{not}
use Rattle.signal_values.specs.Readings.{value_of}
use Rattle.signal_judge.specs.Tallies.{misses_next}
use Rattle.signal_judge.specs.Verdicts.{meets}
use Rattle.signal_judge.proofs.Tallying.{has_value, if_ok, next-selected, next-skip, none_selected, selects_it, tally-skip, value_selected}
use Rattle.signal_judge.proofs.tallied.SignalRuleTallied.note.Goals as goal

pub note_value-requires-clause-value : goal.note_value-requires-clause-value
note_value-requires-clause-value c =
    (value_selected c.args.self.now c.args.origins.now c.args.channel c.args.view.now (value_of c.in-Some.value) (sym (rw c.in-Some.is at c.value_selected.ensures))).1

pub note_value-requires-clause-selected : goal.note_value-requires-clause-selected
note_value-requires-clause-selected c =
    let r = c.args.self.now in
    let there = value_selected r c.args.origins.now c.args.channel c.args.view.now (value_of c.in-Some.value) (sym (rw c.in-Some.is at c.value_selected.ensures)) in
    selects_it r c.args.origins.now c.args.channel c.args.view.now there.0 (has_value r.signal.now c.args.channel c.args.view.now (value_of c.in-Some.value) there.1)

pub returns-in-Some-clause-told : goal.returns-in-Some-clause-told
returns-in-Some-clause-told c = λ history tally.
    let r = c.args.self.now in
    let origins = c.args.origins.now in
    let there = value_selected r origins c.args.channel c.args.view.now (value_of c.in-Some.value) (sym (rw c.in-Some.is at c.value_selected.ensures)) in
    let is = selects_it r origins c.args.channel c.args.view.now there.0 (has_value r.signal.now c.args.channel c.args.view.now (value_of c.in-Some.value) there.1) in
    if_ok (λ (told : Bool). told ≡ not (meets r origins history c.args.channel c.args.view.now)) (λ (told : Bool). told ≡ misses_next r origins history (c.args.channel, c.args.view.now)) c.note_value.result
    (λ told met. next-selected r origins (c.args.channel, c.args.view.now) history told is met)
    (c.note_value.ensures.told history tally)

pub returns-in-None-clause-told : goal.returns-in-None-clause-told
returns-in-None-clause-told c = λ history tally.
    let r = c.args.self.now in
    let origins = c.args.origins.now in
    next-skip r origins (c.args.channel, c.args.view.now) history (none_selected r origins c.args.channel c.args.view.now (sym (rw c.in-None.is at c.value_selected.ensures)))

pub returns-in-None-clause-noted : goal.returns-in-None-clause-noted
returns-in-None-clause-noted c = λ history tally small.
    let r = c.args.self.now in
    let origins = c.args.origins.now in
    tally-skip r origins (c.args.channel, c.args.view.now) history c.args.tally.now (none_selected r origins c.args.channel c.args.view.now (sym (rw c.in-None.is at c.value_selected.ensures))) tally
