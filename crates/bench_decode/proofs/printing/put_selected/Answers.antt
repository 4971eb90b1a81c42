use Rattle.std.proofs.Common.{arith, refl, sym, subst, ◌∙◌, ◌∷◌, true, false}
use Rattle.std.proofs.lemmas.List.{length-map}
use Rattle.bench_select.specs.Viewed.{channels_of, Viewed}
use Rattle.bench_decode.specs.declared.numbers.Numbers.{Numbers}
use Rattle.bench_decode.specs.Numbering.{AreCounts, ArePassed}
use Rattle.bench_decode.proofs.PrintedLines.{chosen_is, none_printed, on_ok, one_printed, same_place}
use Rattle.bench_decode.proofs.printing.put_selected.Goals as goal

pub returns-then-chosen : goal.returns-then-chosen
returns-then-chosen g c = λ history are from.
    let h : Viewed = (c.args.channel, c.args.view.now) in
    let o = c.args.output.now in
    let passed : ArePassed (channels_of history) c.args.printing.now.numbers.counts.items = (are.counts, omega (arith, from, c.ranges.number.fits, length-map history (λ (x : Viewed). x.0))) in
    let counts = c.place-place.ensures.new (channels_of history) passed in
    let place = same_place c.place-place.result history h (c.place-place.ensures.same.0 ∙ from) c.place-place.ensures.same.1 (c.place-place.ensures.number (channels_of history) passed) in
    on_ok c.put_message.result (c.put_message.ensures.put are.shown) c.put_message.ensures.count
    (λ put count.
    one_printed o history h _ _ c.args.printing.now c.put_message.new.printing c.place-place.result are (omega (arith, from, c.ranges.number.fits))
    (chosen_is o.selection history h c.args.number c.is_selected-chosen.result true from c.is_selected-chosen.ensures c.if-chosen.true) place put count
    (subst (λ (n : Numbers). AreCounts (c.args.channel ∷ channels_of history) n.counts.items) (sym c.put_message.ensures.numbers) counts))

pub returns-else-chosen : goal.returns-else-chosen
returns-else-chosen g c = λ history are from.
    let h : Viewed = (c.args.channel, c.args.view.now) in
    let o = c.args.output.now in
    let passed : ArePassed (channels_of history) c.args.printing.now.numbers.counts.items = (are.counts, omega (arith, from, c.ranges.number.fits, length-map history (λ (x : Viewed). x.0))) in
    none_printed o history h _ c.args.printing.now _ are (chosen_is o.selection history h c.args.number c.is_selected-chosen.result false from c.is_selected-chosen.ensures c.if-chosen.false) refl refl
    (c.place-place.ensures.new (channels_of history) passed)
