use Rattle.std.proofs.Common.{◌≡◌, List, ◌++◌, drop}
use Rattle.std.specs.Prelude.{map}
use Rattle.bench_select.specs.Viewed.{Viewed}
use Rattle.bench_select.specs.declared.selection.Selection.{Selection}
use Rattle.bench_signals.specs.Counting.{AreCounted}
use Rattle.bench_signals.specs.Figures.{figures_from, said_by}
use Rattle.bench_signals.proofs.counting.Counting.figures_of.Given as goal

-- the figures of the signals so far, and those that are left
abbrev pub invariant-signals : goal.invariant-signals
invariant-signals l =
    (selection : Selection) (history : List Viewed) → AreCounted selection l.signals history l.self
    → map said_by l.figures.items ++ figures_from selection history l.index (drop l.index l.signals) ≡ figures_from selection history 0 l.signals
