use Rattle.std.proofs.Common.{◌≡◌, ℕ, ◌++◌, sym, ap, ◌∙◌, arith}
use Rattle.std.specs.Prelude.{Option, Some, None, option_map}
use Rattle.signal_values.specs.Readings.{value_of}
use Rattle.bench_select.specs.Signals.{value_in}
use Rattle.bench_decode.specs.Waiting.{Waiting}
use Rattle.bench_decode.specs.MessageText.{body_parts, end_parts, message_line_with, place_parts, values_parts}
use Rattle.bench_decode.proofs.Putting.{free-end, free-values, put-end, put-free}
use Rattle.bench_decode.proofs.messages.write_message_with.Goals as goal

pub returns-clause-put : goal.returns-clause-put
unfolding message_line_with
returns-clause-put g c =
    let m = c.args.view.now in
    put-end _ _ c.args.line.now c.put_values.new.line c.put_end.new.line (place_parts c.args.place.now m) (body_parts m ++ values_parts c.args.signals.now c.args.place.now.channel m) (end_parts m)
    (put-free _ _ _ c.args.line.now c.put_up_to_words.new.line c.put_values.new.line (place_parts c.args.place.now m) (body_parts m) (values_parts c.args.signals.now c.args.place.now.channel m) c.in_ok-put_up_to_words.ensures.put c.in_ok-put_values.ensures.put (free-values c.args.signals.now c.args.place.now.channel m))
    (free-end m) c.put_end.ensures

pub returns-clause-begun : goal.returns-clause-begun
returns-clause-begun g c = ap (λ (w : Waiting). w.columns) c.put_end.ensures
