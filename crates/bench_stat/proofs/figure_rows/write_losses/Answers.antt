use Rattle.bench_stat.specs.RowText.{loss_rows}
use Rattle.bench_stat.proofs.Appending.{then_appends}
use Rattle.bench_stat.proofs.figure_rows.write_losses.Goals as goal

pub returns : goal.returns
unfolding loss_rows
returns g c =
    then_appends c.write_figure-2.result _ _ _ _ _ c.in_ok-write_figure.ensures
    c.write_figure-2.ensures
