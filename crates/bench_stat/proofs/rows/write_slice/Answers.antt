use Rattle.bench_stat.specs.RowText.{slice_row}
use Rattle.bench_stat.proofs.Appending.{then_appends}
use Rattle.bench_stat.proofs.rows.write_slice.Goals as goal

pub returns : goal.returns
unfolding slice_row
returns g c =
    rw (← c.load.ensures)
    (then_appends c.write_all.result _ _ _ _ _ c.in_ok-write.ensures.bytes
    (then_appends c.write_all.result _ _ _ _ _ c.in_ok-write_us.ensures
    (then_appends c.write_all.result _ _ _ _ _ c.in_ok-write-2.ensures.bytes
    (then_appends c.write_all.result _ _ _ _ _ c.in_ok-write_us-2.ensures
    (then_appends c.write_all.result _ _ _ _ _ c.in_ok-write-3.ensures.bytes
    (then_appends c.write_all.result _ _ _ _ _ c.in_ok-write_hundredths.ensures
    c.write_all.ensures.bytes))))))
