use Rattle.std.proofs.Common.{◌≡◌, ◌<◌, ◌≤◌, ◌-◌, ◌∙◌, length, get_or, map, take, refl, sym, ap, subst, arith, vec_capacity}
use Rattle.std.specs.Prelude.{true, false, List}
use Rattle.std.proofs.lemmas.List.{take_all}
use Rattle.controller_host.specs.declared.sources.Row.{Row}
use Rattle.mil_message.specs.Forms.{data_words}
use Rattle.controller_host.specs.Destinations.{is_same}
use Rattle.controller_host.specs.Sources.{AreRows, source_in, advanced_by}
use Rattle.controller_host.proofs.Carried.{no_rows, none_sourced, some_sourced, with_rows, sent_on, sent_same, row_place, word_there}
use Rattle.controller_host.proofs.Advanced.{all_advanced, is_next, rows_on, rows_same, all_same, rise_on}
use Rattle.controller_host.proofs.Rising.{no_row}
use Rattle.controller_host.proofs.sources.Sources.carry.Goals as goal
use Rattle.controller_host.proofs.sources.Sources.carry.Goals.{then-is+then-from-count, else-is, else-is-via-then-is+else-from-count, else-is-via-else-is}

pub returns-in_default-clause-message : goal.returns-in_default-clause-message
returns-in_default-clause-message c =
    c.copy-sent.ensures ∙ sym (none_sourced (source_in c.args.self.now.rows) c.args.message.now (sym c.of.ensures ∙ c.in_default.is))

pub returns-in_default-clause-rows : goal.returns-in_default-clause-rows
returns-in_default-clause-rows c = sym (all_same c.args.message.now c.args.self.now.rows (sym c.of.ensures ∙ c.in_default.is))

pub loop-i-init : goal.loop-i-init
loop-i-init c = record { rows = refl; capacity = refl; ready = refl; sent = c.copy-sent.ensures ∙ sym (no_rows c.in-Some.destination c.args.message.now) }

pub invariant_of-self : goal.invariant_of-self
invariant_of-self c =
    let rows = c.loop-i.invariant.rows ∙ all_advanced c.args.message.now c.self.inside.rows.items c.loop-i.i (omega (arith, c.loop-i-test.false, c.len-i-end.ensures)) in
    let P : List Row → Type 0 = AreRows in
    record {
      rows = subst P (sym rows) (rise_on c.args.message.now 0 c.self.inside.rows.items c.self.invariant.rows);
      room = λ h. omega (arith, c.self.invariant.room (sym c.loop-i.invariant.ready ∙ h), c.loop-i.invariant.capacity);
      none = λ h. rows ∙ ap (map (advanced_by c.args.message.now)) (c.self.invariant.none (sym c.loop-i.invariant.ready ∙ h));
    }

pub overflow_sub-from : goal.overflow_sub-from
overflow_sub-from c =
    let less : c.loop-i.i < length c.self.inside.rows.items = omega (arith, c.loop-i-test.true, c.len-i-end.ensures) in
    let row = is_next c.args.message.now c.self.inside.rows.items c.loop-i.self-inside.rows.items c.loop-i.i c.index.result.now less c.loop-i.invariant.rows c.index.ensures in
    let place = row_place c.self.inside.rows.items c.loop-i.i c.index.result.now c.self.invariant.rows less row in
    omega (arith, place.low, c.from-then-from-count.ensures)

pub put_data_word-requires : goal.put_data_word-requires
put_data_word-requires c =
    let less : c.loop-i.i < length c.self.inside.rows.items = omega (arith, c.loop-i-test.true, c.len-i-end.ensures) in
    let row = is_next c.args.message.now c.self.inside.rows.items c.loop-i.self-inside.rows.items c.loop-i.i c.index.result.now less c.loop-i.invariant.rows c.index.ensures in
    let place = row_place c.self.inside.rows.items c.loop-i.i c.index.result.now c.self.invariant.rows less row in
    word_there (take c.loop-i.i c.self.inside.rows.items) c.in-Some.destination c.args.message.now c.loop-i.sent c.data_words-count.result.now c.index.result.now.place c.from-then-from-count.result
    (sym c.of.ensures ∙ c.in-Some.is) c.loop-i.invariant.sent c.data_words-count.ensures.words place.low (omega (arith, c.if-from-count.true, c.from.ensures)) c.from-then-from-count.ensures

-- what is known of the row
is_row : (c : goal.Joined-is) → (c.loop-i.i < length c.self.inside.rows.items) × (get_or c.self.inside.rows.items c.loop-i.i no_row ≡ c.index.result.now)
is_row c =
    let less : c.loop-i.i < length c.self.inside.rows.items = omega (arith, c.loop-i-test.true, c.len-i-end.ensures) in
    (less, is_next c.args.message.now c.self.inside.rows.items c.loop-i.self-inside.rows.items c.loop-i.i c.index.result.now less c.loop-i.invariant.rows c.index.ensures)

pub loop-i-preserved : goal.loop-i-preserved
loop-i-preserved c =
    let form = c.args.message.now in
    let rows = c.self.inside.rows.items in
    let now = c.loop-i.self-inside.rows.items in
    let row = c.index.result.now in
    let to = sym c.of.ensures ∙ c.in-Some.is in
    let at = is_row c in
    let many = ap length c.data_words-count.ensures.words in
    elim c.if-is.branch [
      | then-is+then-from-count w ↦
          let same : is_same row.destination c.in-Some.destination ≡ true = sym c.is.ensures ∙ w.if-is.true in
          let high : row.place ≤ length (data_words form) = omega (arith, many, w.if-from-count.true, w.from.ensures) in
          record {
            rows = rows_on form c.in-Some.destination rows now c.if-is.self-inside.rows.items c.loop-i.i row w.index_mut.result.now
                (record { destination = w.index_mut.result.now.destination; place = w.index_mut.result.now.place; source = w.advanced.result })
                to at.0 c.loop-i.invariant.rows at.1 w.index_mut.ensures.value same high
                (ap (λ s. record { destination = w.index_mut.result.now.destination; place = w.index_mut.result.now.place; source = s }) w.advanced.ensures)
                (ap (λ s. s.rows.items) w.self-inside-is);
            capacity = ap (λ s. vec_capacity s.rows) w.self-inside-is ∙ c.loop-i.invariant.capacity;
            ready = ap (λ s. s.ready) w.self-inside-is ∙ c.loop-i.invariant.ready;
            sent = sent_on rows c.loop-i.i c.in-Some.destination form row c.loop-i.sent c.if-is.sent (w.from-then-from-count.result - 1) w.word.result c.self.invariant.rows at.0
                to at.1 same high c.loop-i.invariant.sent (ap (λ n. n - 1) w.from-then-from-count.ensures) w.word.ensures (w.sent-is ∙ w.put_data_word.ensures);
          }
      | else-is w ↦
          let not : is_same row.destination c.in-Some.destination ≡ true → length (data_words form) < row.place = λ same.
          elim w.else-is.branch [
            | else-is-via-then-is+else-from-count v ↦ omega (arith, many, v.if-from-count.false, v.from.ensures)
            | else-is-via-else-is v ↦ absurd (let no : true ≡ false = sym same ∙ sym c.is.ensures ∙ v.if-is.false in cc)
          ] in
          record {
            rows = rows_same form c.in-Some.destination rows now c.if-is.self-inside.rows.items c.loop-i.i row to at.0 c.loop-i.invariant.rows at.1 not (ap (λ s. s.rows.items) w.self-inside-is);
            capacity = ap (λ s. vec_capacity s.rows) w.self-inside-is ∙ c.loop-i.invariant.capacity;
            ready = ap (λ s. s.ready) w.self-inside-is ∙ c.loop-i.invariant.ready;
            sent = sent_same rows c.loop-i.i c.in-Some.destination form row c.loop-i.sent c.if-is.sent c.self.invariant.rows at.0 at.1 not c.loop-i.invariant.sent w.sent-is;
          }
    ]

pub returns-clause-message : goal.returns-clause-message
returns-clause-message c =
    let all = take_all c.loop-i.i c.self.inside.rows.items (omega (arith, c.loop-i-test.false, c.len-i-end.ensures)) ∙ ap (λ s. s.rows) c.self.view_is in
    c.loop-i.invariant.sent
    ∙ ap (λ rs. with_rows rs c.in-Some.destination c.args.message.now) all
    ∙ sym (some_sourced c.args.self.now.rows c.in-Some.destination c.args.message.now (sym c.of.ensures ∙ c.in-Some.is))
