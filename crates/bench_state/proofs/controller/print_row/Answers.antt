use Rattle.bench_state.proofs.Appending.{then_appends}
use Rattle.bench_state.proofs.controller.print_row.Goals as goal

pub returns : goal.returns
returns g c =
    rw (← c.dots_before.ensures)
    (then_appends c.print_source.result _ _ _ _ _ c.in_ok-print_opening.ensures
    (then_appends c.print_source.result _ _ _ _ _ c.in_ok-print_dots.ensures
    c.print_source.ensures))
