use Rattle.bench_dump.proofs.Steps.{appends_both}
use Rattle.bench_signals.specs.FigureText.{figure_row}
use Rattle.bench_signals.proofs.printing.print_row.Goals as goal

pub returns : goal.returns
unfolding figure_row
returns g c =
    appends_both _ _ _ _ _ c.in_ok-print_front.ensures
    (appends_both _ _ _ _ _ c.in_ok-print_fields.ensures
    (appends_both _ _ _ _ _ c.in_ok-print_fields-2.ensures
    (appends_both _ _ _ _ _ c.in_ok-print_fields-3.ensures
    (appends_both _ _ _ _ _ c.in_ok-print_fields-4.ensures c.in_ok-write_all.ensures.bytes))))
