use Rattle.std.proofs.Common.{◌≡◌, ◌+◌, true, List, ◌∷◌, length}
use Rattle.bench_select.specs.Selecting.{selects}
use Rattle.bench_select.specs.Viewed.{Viewed}
use Rattle.bench_select.specs.declared.selection.Selection.{Selection}
use Rattle.bench_signals.specs.Counting.{AreCounted, HasNoOthers}
use Rattle.bench_signals.proofs.Counted.{AreAhead, ArePast}
use Rattle.bench_signals.proofs.counting.Counting.note_message.Given as goal

-- the signals so far are counted
abbrev pub invariant-signals : goal.invariant-signals
invariant-signals l = record {
  ahead : (selection : Selection) (history : List Viewed) → AreCounted selection l.signals history l.fn.self → AreAhead selection l.signals history l.self l.index;
  past : (selection : Selection) (history : List Viewed) → AreCounted selection l.signals history l.fn.self → selects selection (length history + 1) l.channel l.view ≡ true → ArePast selection l.signals ((l.channel, l.view) ∷ history) l.self l.index;
  others : HasNoOthers l.fn.self → HasNoOthers l.self;
}
