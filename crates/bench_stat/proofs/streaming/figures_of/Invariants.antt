use Rattle.std.proofs.Common.{◌≡◌, List}
use Rattle.ch11_reader.specs.Recording.{Found}
use Rattle.bench_select.specs.declared.selection.Selection.{Selection}
use Rattle.bench_stat.specs.Figures.{figures_among, channels_below, headers}
use Rattle.bench_stat.specs.Streaming.{AreTalliesOf}
use Rattle.bench_stat.proofs.streaming.figures_of.Given as goal

-- the figures of the channels below
abbrev pub invariant-channels : goal.invariant-channels
invariant-channels l = (s : Selection) (ps : List Found) → AreTalliesOf s ps l.so_far → l.figures.items ≡ figures_among s (channels_below s l.channel (headers ps)) ps
