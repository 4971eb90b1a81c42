use Rattle.std.proofs.Common.{◌≡◌, ◌<◌, ◌-◌, ◌∙◌, length, get_or, take, refl, sym, ap, subst, arith}
use Rattle.std.specs.Prelude.{true, false, List}
use Rattle.std.proofs.lemmas.List.{take_all}
use Rattle.mil_message.specs.Forms.{data_words}
use Rattle.controller_host.specs.declared.sources.Row.{Row}
use Rattle.controller_host.specs.Destinations.{is_same}
use Rattle.controller_host.specs.Sources.{AreRows, source_in}
use Rattle.controller_host.proofs.Rising.{no_row}
use Rattle.controller_host.proofs.Carried.{no_rows, none_sourced, some_sourced, with_rows, sent_on, sent_same, row_place, word_there}
use Rattle.controller_host.proofs.sources.Sources.filled.Goals as goal
use Rattle.controller_host.proofs.sources.Sources.filled.Goals.{then-is+then-from-count, else-is, else-is-via-then-is+else-from-count, else-is-via-else-is}

pub returns-in_default : goal.returns-in_default
returns-in_default c = c.copy-sent.ensures ∙ sym (none_sourced (source_in c.args.self.now.rows) c.args.message.now (sym c.of.ensures ∙ c.in_default.is))

pub loop-row-init : goal.loop-row-init
loop-row-init c = c.copy-sent.ensures ∙ sym (no_rows c.in-Some.destination c.args.message.now)

pub overflow_sub-from : goal.overflow_sub-from
overflow_sub-from c =
    let P : List Row → Type 0 = AreRows in
    let rise = subst P (sym c.deref-row-items.ensures.value) c.self.invariant.rows in
    let place = row_place c.deref-row-items.result.now c.loop-row.row-index _ rise c.loop-row-test.true refl in
    omega (arith, place.low, c.from-then-from-count.ensures)

pub put_data_word-requires : goal.put_data_word-requires
put_data_word-requires c =
    let P : List Row → Type 0 = AreRows in
    let rise = subst P (sym c.deref-row-items.ensures.value) c.self.invariant.rows in
    let row = get_or c.deref-row-items.result.now c.loop-row.row-index no_row in
    let place = row_place c.deref-row-items.result.now c.loop-row.row-index row rise c.loop-row-test.true refl in
    word_there (take c.loop-row.row-index c.deref-row-items.result.now) c.in-Some.destination c.args.message.now c.loop-row.sent c.data_words-count.result.now row.place c.from-then-from-count.result
    (sym c.of.ensures ∙ c.in-Some.is) c.loop-row.invariant c.data_words-count.ensures.words place.low (omega (arith, c.if-from-count.true, c.from.ensures)) c.from-then-from-count.ensures

pub loop-row-preserved : goal.loop-row-preserved
loop-row-preserved c =
    let form = c.args.message.now in
    let rows = c.deref-row-items.result.now in
    let row = get_or c.deref-row-items.result.now c.loop-row.row-index no_row in
    let P : List Row → Type 0 = AreRows in
    let rise = subst P (sym c.deref-row-items.ensures.value) c.self.invariant.rows in
    let many = ap length c.data_words-count.ensures.words in
    elim c.if-is.branch [
      | then-is+then-from-count w ↦
          sent_on rows c.loop-row.row-index c.in-Some.destination form row c.loop-row.sent c.if-is.sent (w.from-then-from-count.result - 1) w.word.result rise c.loop-row-test.true
          (sym c.of.ensures ∙ c.in-Some.is) refl (sym c.is.ensures ∙ w.if-is.true) (omega (arith, many, w.if-from-count.true, w.from.ensures))
          c.loop-row.invariant (ap (λ n. n - 1) w.from-then-from-count.ensures) w.word.ensures (w.sent-is ∙ w.put_data_word.ensures)
      | else-is w ↦
          let not : is_same row.destination c.in-Some.destination ≡ true → length (data_words form) < row.place = λ same.
          elim w.else-is.branch [
            | else-is-via-then-is+else-from-count v ↦ omega (arith, many, v.if-from-count.false, v.from.ensures)
            | else-is-via-else-is v ↦ absurd (let no : true ≡ false = sym same ∙ sym c.is.ensures ∙ v.if-is.false in cc)
          ] in
          sent_same rows c.loop-row.row-index c.in-Some.destination form row c.loop-row.sent c.if-is.sent rise c.loop-row-test.true refl not c.loop-row.invariant w.sent-is
    ]

pub returns : goal.returns
returns c =
    let all = take_all c.loop-row.row-index c.deref-row-items.result.now c.loop-row-test.false ∙ c.deref-row-items.ensures.value ∙ ap (λ s. s.rows) c.self.view_is in
    c.loop-row.invariant
    ∙ ap (λ rs. with_rows rs c.in-Some.destination c.args.message.now) all
    ∙ sym (some_sourced c.args.self.now.rows c.in-Some.destination c.args.message.now (sym c.of.ensures ∙ c.in-Some.is))
