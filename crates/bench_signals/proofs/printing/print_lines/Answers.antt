use Rattle.bench_signals.specs.FigureText.{figure_lines}
use Rattle.bench_signals.proofs.Printed.{then_appends}
use Rattle.bench_signals.proofs.printing.print_lines.Goals as goal

pub returns : goal.returns
unfolding figure_lines
returns g c =
    then_appends c.print_line-4.result _ _ _ _ _ c.in_ok-print_head_line.ensures
    (then_appends c.print_line-4.result _ _ _ _ _ c.in_ok-print_line.ensures
    (then_appends c.print_line-4.result _ _ _ _ _ c.in_ok-print_line-2.ensures
    (then_appends c.print_line-4.result _ _ _ _ _ c.in_ok-print_line-3.ensures
    c.print_line-4.ensures)))
