use Rattle.std.proofs.Common.{◌≡◌, ◌-◌, true, false, ap, ap₂, sym, ◌∙◌, arith}
use Rattle.std.specs.Prelude.{slice_set}
use Rattle.mil_message.specs.Forms.{data_words, with_data_words}
use Rattle.controller_host.specs.Destinations.{is_same}
use Rattle.controller_host.specs.Sources.{set_by, sourced}
use Rattle.bc_machine.specs.Asking.{put_over}
use Rattle.bc_machine.proofs.Filled.{data_put, data_other, ramp_put, ramp_other, nowhere_stays, insert_stays}
use Rattle.bc_machine.proofs.asking.fill.Goals as goal

pub returns-in_default : goal.returns-in_default
returns-in_default c = nowhere_stays (set_by c.args.control.now) c.args.sent.now (sym c.of.ensures ∙ c.in_default.is)

pub returns-then-is : goal.returns-then-is
returns-then-is c =
    let m = c.args.sent.now in
    let new = c.in-Data.new in
    let same : is_same c.in-Some.destination new.destination ≡ true = ap (is_same c.in-Some.destination) (sym c.destination.ensures.value) ∙ sym c.is.ensures ∙ c.if-is.true in
    c.put_words.ensures
    ∙ ap (λ ws. with_data_words (put_over ws (data_words m)) m) c.words.ensures.value
    ∙ data_put m c.in-Some.destination (sym c.of.ensures ∙ c.in-Some.is) new same
    ∙ ap (λ k. sourced (set_by k) m) (sym c.in-Data.is)

pub returns-else-is : goal.returns-else-is
returns-else-is c =
    let m = c.args.sent.now in
    let new = c.in-Data.new in
    let other : is_same c.in-Some.destination new.destination ≡ false = ap (is_same c.in-Some.destination) (sym c.destination.ensures.value) ∙ sym c.is.ensures ∙ c.if-is.false in
    data_other m c.in-Some.destination (sym c.of.ensures ∙ c.in-Some.is) new other
    ∙ ap (λ k. sourced (set_by k) m) (sym c.in-Data.is)

pub returns-then-is-2 : goal.returns-then-is-2
returns-then-is-2 c =
    let m = c.args.sent.now in
    let ramp = c.in-Ramp.ramp in
    let same : is_same c.in-Some.destination ramp.destination ≡ true = ap (is_same c.in-Some.destination) (sym c.destination-in-Ramp.ensures) ∙ sym c.is-in-Ramp.ensures ∙ c.if-is-2.true in
    c.put_word.ensures
    ∙ ap₂ (λ k w. with_data_words (slice_set (data_words m) (k - 1) w) m) (c.from.ensures ∙ c.place.ensures.value) c.start.ensures
    ∙ ramp_put m c.in-Some.destination (sym c.of.ensures ∙ c.in-Some.is) ramp (omega (arith, c.place.ensures.value, c.place.ensures.range.low)) same
    ∙ ap (λ k. sourced (set_by k) m) (sym c.in-Ramp.is)

pub returns-else-is-2 : goal.returns-else-is-2
returns-else-is-2 c =
    let m = c.args.sent.now in
    let ramp = c.in-Ramp.ramp in
    let other : is_same c.in-Some.destination ramp.destination ≡ false = ap (is_same c.in-Some.destination) (sym c.destination-in-Ramp.ensures) ∙ sym c.is-in-Ramp.ensures ∙ c.if-is-2.false in
    ramp_other m c.in-Some.destination (sym c.of.ensures ∙ c.in-Some.is) ramp other
    ∙ ap (λ k. sourced (set_by k) m) (sym c.in-Ramp.is)

pub returns-in-Insert : goal.returns-in-Insert
returns-in-Insert c = insert_stays c.in-Insert.field-0 c.args.sent.now ∙ ap (λ k. sourced (set_by k) c.args.sent.now) (sym c.in-Insert.is)
