use Rattle.bench_state.proofs.Appending.{then_appends}
use Rattle.bench_state.proofs.states.print_channel.Goals as goal

pub returns : goal.returns
returns g c =
    rw (← c.bus.ensures.value)
    (then_appends c.print_asked.result _ _ _ _ _ c.in_ok-print_number.ensures
    (then_appends c.print_asked.result _ _ _ _ _ c.in_ok-print_terminals.ensures
    c.print_asked.ensures))
