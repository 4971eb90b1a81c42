use Rattle.bench_stat.specs.RowText.{long_table}
use Rattle.bench_stat.proofs.Appending.{then_appends}
use Rattle.bench_stat.proofs.rows.write_long_table.Goals as goal

pub returns : goal.returns
unfolding long_table
returns g c =
    then_appends c.write_all.result _ _ _ _ _ c.in_ok-writeln.ensures.bytes
    (then_appends c.write_all.result _ _ _ _ _ c.in_ok-write_all_figures.ensures
    c.write_all.ensures.bytes)
