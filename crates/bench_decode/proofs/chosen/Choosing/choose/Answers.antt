use Rattle.std.proofs.Common.{arith, sym, ◌∙◌}
use Rattle.std.proofs.lemmas.List.{length-map}
use Rattle.ch11_f1.specs.Views.{message_of}
use Rattle.ch11_layout.specs.Stamps.{recorded}
use Rattle.bench_select.specs.Viewed.{Viewed, channels_of}
use Rattle.bench_decode.proofs.Unchosen.{unchosen_more}
use Rattle.bench_decode.proofs.chosen.Choosing.choose.Goals as goal

pub returns-else-is_chosen : goal.returns-else-is_chosen
returns-else-is_chosen c = λ history are is.
    let v : Viewed = (c.args.channel, recorded c.args.kind (message_of c.args.seen.now)) in
    record {
      found = are.found ∙ sym (unchosen_more c.args.selection.now history v c.args.number is (sym c.is_chosen.ensures ∙ c.if-is_chosen.false));
      counts = c.place-place.ensures.new (channels_of history) (are.counts, omega (arith, is, c.ranges.number.fits, length-map history (λ (h : Viewed). h.0)));
    }
