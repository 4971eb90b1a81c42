use Rattle.std.proofs.Common.{ℕ, List, sym, ap, ◌∙◌, arith}
use Rattle.bench_stat.specs.Figures.{figures_among, headers}
use Rattle.bench_stat.proofs.Present.{no_channels}
use Rattle.bench_stat.proofs.Streamed.{all_figures, next_figures}
use Rattle.bench_stat.proofs.streaming.figures_of.Goals as goal

pub channels-init : goal.channels-init
channels-init c = λ s ps are. c.new-figures.ensures.items ∙ sym (ap (λ (cs : List ℕ). figures_among s cs ps) (no_channels s (headers ps)))

pub channels-preserved : goal.channels-preserved
channels-preserved c = λ s ps are.
    next_figures s c.channels.channel ps c.args.so_far.now c.channels.figures.items c.push_figures.new.figures.items are (c.channels.invariant s ps are) c.in_ok-push_figures.ensures

pub returns-then-so_far-channel : goal.returns-then-so_far-channel
returns-then-so_far-channel c = λ s ps are.
    all_figures s c.channels.channel ps c.args.so_far.now c.channels.figures.items are c.if-so_far-channel.true (omega (arith, c.channels-test.true)) (c.channels.invariant s ps are)
