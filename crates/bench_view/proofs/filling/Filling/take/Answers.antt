use Rattle.std.proofs.Common.{◌≡◌, List, ℕ, refl, sym, ap, subst, ◌∙◌, ◌∷◌, length, arith}
use Rattle.std.proofs.lemmas.List.{length-map}
use Rattle.bench_decode.specs.ByTime.{Told, chosen}
use Rattle.bench_decode.specs.Numbering.{AreCounts, ArePassed}
use Rattle.bench_decode.specs.declared.numbers.Numbers.{Numbers}
use Rattle.bench_decode.proofs.Unchosen.{unchosen_more}
use Rattle.bench_select.specs.Viewed.{Viewed, channels_of}
use Rattle.bench_view.specs.Filling.{IsFilled}
use Rattle.bench_view.proofs.Room.{chosen_more, renumbered, told_behind}
use Rattle.bench_view.proofs.filling.Filling.take.Goals as goal

pub returns-in_ok-put-clause-filled : goal.returns-in_ok-put-clause-filled
returns-in_ok-put-clause-filled c = λ front history are is.
    let v : Viewed = (c.args.channel, c.args.view.now) in
    let s = c.args.asked.now.selection in
    let signals = c.args.asked.now.signals.now in
    let few : ArePassed (channels_of history) c.args.self.now.numbers.counts.items = (are.counts, omega (arith, is, c.ranges.number.fits, length-map history (λ (h : Viewed). h.0))) in
    record {
      filled = subst (λ (ts : List Told). IsFilled front signals ts c.put.new.self) (sym (chosen_more s history v c.args.number is (sym c.selects.ensures ∙ c.if-selects.true)))
          (c.in_ok-put.ensures.filled front (chosen s history) (told_behind history v) (renumbered front signals (chosen s history) c.args.self.now _ are.filled refl refl refl refl refl)
          (sym is ∙ sym c.place-place.ensures.same.0) (sym c.place-place.ensures.same.1) (sym (c.place-place.ensures.number (channels_of history) few)) refl);
      counts = subst (λ (n : Numbers). AreCounts (channels_of (v ∷ history)) n.counts.items) (sym c.in_ok-put.ensures.numbers) (c.place-place.ensures.new (channels_of history) few);
    }

pub returns-else-selects-clause-filled : goal.returns-else-selects-clause-filled
returns-else-selects-clause-filled c = λ front history are is.
    let v : Viewed = (c.args.channel, c.args.view.now) in
    let s = c.args.asked.now.selection in
    let signals = c.args.asked.now.signals.now in
    let few : ArePassed (channels_of history) c.args.self.now.numbers.counts.items = (are.counts, omega (arith, is, c.ranges.number.fits, length-map history (λ (h : Viewed). h.0))) in
    record {
      filled = renumbered front signals _ c.args.self.now _ (subst (λ (ts : List Told). IsFilled front signals ts c.args.self.now) (sym (unchosen_more s history v c.args.number is (sym c.selects.ensures ∙ c.if-selects.false))) are.filled) refl refl refl refl refl;
      counts = c.place-place.ensures.new (channels_of history) few;
    }
