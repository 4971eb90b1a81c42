use Rattle.bench_state.specs.StateText.{terminal_line}
use Rattle.bench_state.proofs.Appending.{then_appends}
use Rattle.bench_state.proofs.states.print_terminal.Goals as goal

pub returns : goal.returns
unfolding terminal_line
returns g c =
    rw (← c.status.ensures, ← c.last_command.ensures, ← c.vector.ensures, ← c.bit_word.ensures, ← c.sync_word.ensures, ← c.transmitter_on.ensures, ← c.transmitter_on-2.ensures, ← c.address.ensures.value)
    (then_appends c.print_off.result _ _ _ _ _ c.in_ok-write.ensures.bytes
    (then_appends c.print_off.result _ _ _ _ _ c.in_ok-print_field.ensures
    (then_appends c.print_off.result _ _ _ _ _ c.in_ok-print_field-2.ensures
    (then_appends c.print_off.result _ _ _ _ _ c.in_ok-print_field-3.ensures
    (then_appends c.print_off.result _ _ _ _ _ c.in_ok-print_field-4.ensures
    (then_appends c.print_off.result _ _ _ _ _ c.in_ok-print_field-5.ensures
    c.print_off.ensures))))))
