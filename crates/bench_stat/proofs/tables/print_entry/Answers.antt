use Rattle.bench_stat.specs.PageText.{entry_line}
use Rattle.bench_stat.proofs.Appending.{then_appends}
use Rattle.bench_stat.proofs.tables.print_entry.Goals as goal

pub returns : goal.returns
unfolding entry_line
returns g c =
    rw (← c.parts_of-address.ensures.address, ← c.parts_of-address.ensures.direction, ← c.parts_of-address.ensures.subaddress, ← c.is_some.ensures, ← c.rate_in.ensures)
    (then_appends c.print_rate.result _ _ _ _ _ c.in_ok-print_address.ensures
    (then_appends c.print_rate.result _ _ _ _ _ c.in_ok-print_direction.ensures
    (then_appends c.print_rate.result _ _ _ _ _ c.in_ok-print_subaddress.ensures
    (then_appends c.print_rate.result _ _ _ _ _ c.in_ok-print_counts.ensures
    (then_appends c.print_rate.result _ _ _ _ _ c.in_ok-print_gap_columns.ensures
    c.print_rate.ensures)))))
