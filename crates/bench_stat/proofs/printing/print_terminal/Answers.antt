use Rattle.bench_stat.specs.ChannelText.{terminal_line}
use Rattle.bench_stat.proofs.Appending.{then_appends}
use Rattle.bench_stat.proofs.printing.print_terminal.Goals as goal

pub returns : goal.returns
unfolding terminal_line
returns g c =
    then_appends c.print_response_times.result _ _ _ _ _ c.in_ok-print_address.ensures
    (then_appends c.print_response_times.result _ _ _ _ _ c.in_ok-print_call_counts.ensures
    c.print_response_times.ensures)
