use Rattle.bench_signals.proofs.Printed.{figures_all, figures_more}
use Rattle.bench_signals.proofs.printing.print_signals.Goals as goal

pub loop-figure-preserved : goal.loop-figure-preserved
loop-figure-preserved g c =
    figures_more c.args.rows c.args.signals.now c.args.figures.now c.loop-figure.figure-index c.figure-item.result _ _ _ c.figure-item.is c.loop-figure-test.true c.loop-figure.invariant c.in_ok-print_figure.ensures

pub returns : goal.returns
returns g c = figures_all c.args.rows c.args.signals.now c.args.figures.now c.loop-figure.figure-index _ _ c.loop-figure-test.false c.loop-figure.invariant
