use Rattle.std.proofs.Common.{◌≡◌, drop}
use Rattle.std.specs.Prelude.{map}
use Rattle.bench_signals.specs.Counting.{and_figures_in}
use Rattle.bench_signals.specs.Figures.{said_by}
use Rattle.bench_signals.proofs.counting.Counting.push_signal.Given as goal

-- the figures of the channels so far, and those that are left
abbrev pub invariant-channels : goal.invariant-channels
invariant-channels l =
    and_figures_in l.self l.index (drop l.place l.channels) (map said_by l.figures.items) ≡ and_figures_in l.self l.index l.channels (map said_by l.fn.figures.items)
