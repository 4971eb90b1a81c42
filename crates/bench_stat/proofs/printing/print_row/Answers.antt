use Rattle.bench_stat.specs.ChannelText.{terminal_row}
use Rattle.bench_stat.proofs.Appending.{then_appends}
use Rattle.bench_stat.proofs.printing.print_row.Goals as goal

pub returns : goal.returns
unfolding terminal_row
returns g c =
    then_appends c.print_response_fields.result _ _ _ _ _ c.in_ok-write.ensures.bytes
    (then_appends c.print_response_fields.result _ _ _ _ _ c.in_ok-print_call_fields.ensures
    c.print_response_fields.ensures)
