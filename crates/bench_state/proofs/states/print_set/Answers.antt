use Rattle.bench_state.proofs.Appending.{then_appends}
use Rattle.bench_state.proofs.states.print_set.Goals as goal

pub returns : goal.returns
returns g c =
    then_appends c.print_kinds.result _ _ _ _ _ c.in_ok-print_host.ensures
    (then_appends c.print_kinds.result _ _ _ _ _ c.in_ok-print_marks.ensures
    (then_appends c.print_kinds.result _ _ _ _ _ c.in_ok-print_ramps.ensures
    c.print_kinds.ensures))
