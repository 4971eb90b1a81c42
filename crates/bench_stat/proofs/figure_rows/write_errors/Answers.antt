use Rattle.bench_stat.specs.RowText.{error_rows}
use Rattle.bench_stat.proofs.Appending.{then_appends}
use Rattle.bench_stat.proofs.figure_rows.write_errors.Goals as goal

pub returns : goal.returns
unfolding error_rows
returns g c =
    then_appends c.write_count-7.result _ _ _ _ _ c.in_ok-write_count.ensures
    (then_appends c.write_count-7.result _ _ _ _ _ c.in_ok-write_count-2.ensures
    (then_appends c.write_count-7.result _ _ _ _ _ c.in_ok-write_count-3.ensures
    (then_appends c.write_count-7.result _ _ _ _ _ c.in_ok-write_count-4.ensures
    (then_appends c.write_count-7.result _ _ _ _ _ c.in_ok-write_count-5.ensures
    (then_appends c.write_count-7.result _ _ _ _ _ c.in_ok-write_count-6.ensures
    c.write_count-7.ensures)))))
