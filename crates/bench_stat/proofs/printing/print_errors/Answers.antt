use Rattle.bench_stat.specs.ChannelText.{errors_line}
use Rattle.bench_stat.proofs.Appending.{then_appends}
use Rattle.bench_stat.proofs.printing.print_errors.Goals as goal

pub returns : goal.returns
unfolding errors_line
returns g c = then_appends c.writeln.result _ _ _ _ _ c.in_ok-print_errors_in_front.ensures c.writeln.ensures.bytes
