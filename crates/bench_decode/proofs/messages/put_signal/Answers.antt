use Rattle.std.proofs.Common.{◌≡◌, ℕ, ◌++◌, sym, ap, ◌∙◌, arith}
use Rattle.std.specs.Prelude.{Option, Some, None, option_map}
use Rattle.signal_values.specs.Readings.{value_of}
use Rattle.bench_select.specs.Signals.{value_in}
use Rattle.bench_decode.specs.Waiting.{Waiting}
use Rattle.bench_decode.proofs.Putting.{no-value}
use Rattle.std.proofs.Common.{subst}
use Rattle.std.specs.Prelude.{OnOk}
use Rattle.bench_decode.specs.Waiting.{IsPut}
use Rattle.bench_decode.specs.Columns.{drawn}
use Rattle.signal_values.specs.Readings.{Value}
use Rattle.bench_decode.specs.MessageText.{told_value}
use Rattle.bench_decode.proofs.messages.put_signal.Goals as goal

pub returns-in-Some-clause-put : goal.returns-in-Some-clause-put
returns-in-Some-clause-put g c =
    let is : value_in c.args.signal.now c.args.channel c.args.view.now ≡ Some (value_of c.in-Some.reading) = sym c.value_in.ensures ∙ ap (λ o. option_map value_of o) c.in-Some.is in
    subst (λ (o : Option Value). OnOk c.put_reading_of.result (IsPut (g.W.Write.contents c.args.out.now) c.args.line.now (g.W.Write.contents c.put_reading_of.new.out) c.put_reading_of.new.line (drawn c.args.line.now.shown 0 (told_value c.args.signal.now o)))) (sym is) c.put_reading_of.ensures.put

pub returns-in-None-clause-put : goal.returns-in-None-clause-put
returns-in-None-clause-put g c =
    let is : value_in c.args.signal.now c.args.channel c.args.view.now ≡ None = sym c.value_in.ensures ∙ ap (λ o. option_map value_of o) c.in-None.is in
    subst (λ (o : Option Value). IsPut (g.W.Write.contents c.args.out.now) c.args.line.now (g.W.Write.contents c.args.out.now) c.args.line.now (drawn c.args.line.now.shown 0 (told_value c.args.signal.now o))) (sym is) (no-value _ c.args.line.now c.args.signal.now)
