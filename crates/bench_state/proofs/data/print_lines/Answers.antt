use Rattle.bench_state.specs.DataText.{data_lines}
use Rattle.bench_state.proofs.Appending.{then_appends}
use Rattle.bench_state.proofs.data.print_lines.Goals as goal

pub returns : goal.returns
unfolding data_lines
returns g c =
    rw (← c.received.ensures, ← c.received_from_all.ensures, ← c.transmit_words.ensures, ← c.address-own.ensures.value)
    (then_appends c.print_line-3.result _ _ _ _ _ c.in_ok-print_line.ensures
    (then_appends c.print_line-3.result _ _ _ _ _ c.in_ok-print_line-2.ensures
    c.print_line-3.ensures))
