use Rattle.std.proofs.Common.{◌≡◌, ℕ, List, ◌++◌, ap, ◌∙◌}
use Rattle.signal_values.specs.Readings.{value_of}
use Rattle.signal_values.specs.Texts.{value_text}
use Rattle.bench_signals.proofs.printing.print_value.Goals as goal

pub returns : goal.returns
returns g c =
    let is : c.as_slice.result.now ≡ value_text c.args.kind.now (value_of c.args.value) = c.as_slice.ensures.value ∙ c.in_ok-put_reading.ensures ∙ ap (λ (l : List ℕ). l ++ value_text c.args.kind.now (value_of c.args.value)) c.clear.ensures.items in
    rw is at c.in_ok-write_all.ensures.bytes
