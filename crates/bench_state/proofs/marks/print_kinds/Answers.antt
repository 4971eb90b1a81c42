use Rattle.bench_state.specs.Marks.{kinds_line}
use Rattle.bench_state.proofs.Appending.{then_appends}
use Rattle.bench_state.proofs.marks.print_kinds.Goals as goal

pub returns : goal.returns
unfolding kinds_line
returns g c =
    rw (← c.in_ok-begun.ensures.begun)
    (then_appends c.print_end_if.result _ _ _ _ _ c.in_ok-begun.ensures.text c.print_end_if.ensures)
