use Rattle.bench_stat.proofs.Appending.{then_appends}
use Rattle.bench_stat.proofs.page.print_long_counts.Goals as goal

pub returns : goal.returns
returns g c =
    rw (← c.known_span.ensures, ← c.rate_in.ensures)
    (then_appends c.writeln.result _ _ _ _ _ c.in_ok-write.ensures.bytes
    (then_appends c.writeln.result _ _ _ _ _ c.in_ok-print_rate.ensures
    c.writeln.ensures.bytes))
