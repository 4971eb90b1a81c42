use Rattle.bench_stat.specs.RowText.{gap_rows}
use Rattle.bench_stat.proofs.Appending.{then_appends}
use Rattle.bench_stat.proofs.figure_rows.write_gaps.Goals as goal

pub returns : goal.returns
unfolding gap_rows
returns g c = rw (← c.gap_of-least.ensures, ← c.gap_of-greatest.ensures) (then_appends c.write_gap-2.result _ _ _ _ _ c.in_ok-write_gap.ensures c.write_gap-2.ensures)
