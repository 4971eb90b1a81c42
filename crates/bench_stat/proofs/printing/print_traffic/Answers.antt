use Rattle.bench_stat.specs.ChannelText.{traffic_lines}
use Rattle.bench_stat.proofs.Appending.{then_appends}
use Rattle.bench_stat.proofs.printing.print_traffic.Goals as goal

pub returns : goal.returns
unfolding traffic_lines
returns g c =
    rw (← c.known_span.ensures, ← c.known_load.ensures)
    (then_appends c.print_load_line.result _ _ _ _ _ c.in_ok-print_span.ensures
    (then_appends c.print_load_line.result _ _ _ _ _ c.in_ok-print_falls.ensures
    (then_appends c.print_load_line.result _ _ _ _ _ c.in_ok-print_times.ensures
    (then_appends c.print_load_line.result _ _ _ _ _ c.in_ok-print_counts.ensures
    c.print_load_line.ensures))))
