use Rattle.bench_state.proofs.Appending.{then_appends}
use Rattle.bench_state.proofs.controller.print_opening.Goals as goal

pub returns : goal.returns
returns g c =
    rw (← c.goes_on.ensures, c.if-goes_on.false, ← c.is_some.ensures)
    (then_appends c.print_destination.result _ _ _ _ _ c.in_ok-print_end_if.ensures c.print_destination.ensures)
