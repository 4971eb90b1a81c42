use Rattle.std.proofs.Common.{◌≡◌, ℕ, List, ◌++◌, sym, ap, ◌∙◌, arith}
use Rattle.std.specs.Prelude.{Option, Some, None, option_map}
use Rattle.signal_values.specs.Readings.{value_of}
use Rattle.signal_values.specs.Texts.{told_text}
use Rattle.bench_select.specs.Signals.{value_in}
use Rattle.bench_decode.specs.Waiting.{Waiting}
use Rattle.bench_decode.proofs.Putting.{told-value}
use Rattle.bench_decode.proofs.messages.put_reading_of.Goals as goal

pub returns-clause-put : goal.returns-clause-put
returns-clause-put g c =
    let is : c.as_slice.result.now ≡ told_text c.args.signal.now (value_of c.args.reading) = c.as_slice.ensures.value ∙ c.in_ok-put_value.ensures ∙ ap (λ (l : List ℕ). l ++ told_text c.args.signal.now (value_of c.args.reading)) c.clear.ensures.items in
    told-value _ _ c.args.line.now c.put_text.new.self c.args.signal.now (value_of c.args.reading) (rw is at c.in_ok-put_text.ensures.put)
