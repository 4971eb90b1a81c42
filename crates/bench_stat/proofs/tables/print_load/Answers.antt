use Rattle.std.proofs.Common.{refl}
use Rattle.std.specs.Prelude.{codes}
use Rattle.bench_stat.specs.PageText.{slice_line, slice_lines}
use Rattle.bench_stat.proofs.Appending.{all_got, goes_on}
use Rattle.bench_stat.proofs.tables.print_load.Goals as goal

pub loop-slice-preserved : goal.loop-slice-preserved
loop-slice-preserved g c = goes_on slice_line c.args.slices.now c.loop-slice.slice-index _ _ _ _ _ (codes "       seconds     load\n") refl c.loop-slice-test.true c.loop-slice.invariant c.in_ok-print_slice.ensures

pub returns : goal.returns
unfolding slice_lines
returns g c = all_got slice_line c.args.slices.now c.loop-slice.slice-index _ _ (codes "       seconds     load\n") c.loop-slice-test.false c.loop-slice.invariant
