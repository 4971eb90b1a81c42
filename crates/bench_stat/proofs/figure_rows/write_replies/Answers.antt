use Rattle.bench_stat.specs.RowText.{reply_rows}
use Rattle.bench_stat.proofs.Appending.{then_appends}
use Rattle.bench_stat.proofs.figure_rows.write_replies.Goals as goal

pub returns : goal.returns
unfolding reply_rows
returns g c =
    then_appends c.write_count-10.result _ _ _ _ _ c.in_ok-write_count.ensures
    (then_appends c.write_count-10.result _ _ _ _ _ c.in_ok-write_count-2.ensures
    (then_appends c.write_count-10.result _ _ _ _ _ c.in_ok-write_count-3.ensures
    (then_appends c.write_count-10.result _ _ _ _ _ c.in_ok-write_count-4.ensures
    (then_appends c.write_count-10.result _ _ _ _ _ c.in_ok-write_count-5.ensures
    (then_appends c.write_count-10.result _ _ _ _ _ c.in_ok-write_count-6.ensures
    (then_appends c.write_count-10.result _ _ _ _ _ c.in_ok-write_count-7.ensures
    (then_appends c.write_count-10.result _ _ _ _ _ c.in_ok-write_count-8.ensures
    (then_appends c.write_count-10.result _ _ _ _ _ c.in_ok-write_count-9.ensures
    c.write_count-10.ensures))))))))
