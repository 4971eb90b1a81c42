use Rattle.std.proofs.Common.{◌≡◌, ◌||◌, true, List, ◌∷◌, ◌++◌, drop}
use Rattle.bench_select.specs.Viewed.{Viewed}
use Rattle.bench_signals.specs.Latest.{AreKept}
use Rattle.bench_signals.specs.Sheets.{cells, shows_any, is_selected}
use Rattle.bench_signals.proofs.Keeping.{AreDone, AreLeft}
use Rattle.bench_signals.proofs.rows.Room.push_cells.Given as goal

-- the signals so far have their cells, and their values are kept
abbrev pub invariant-signals : goal.invariant-signals
invariant-signals l = record {
  left : (history : List Viewed) → AreKept l.sheet history l.fn.self.latest → l.sheet.changes ≡ true → AreLeft l.sheet history l.self.latest l.index;
  done : (history : List Viewed) → AreKept l.sheet history l.fn.self.latest → is_selected l.sheet history (l.channel, l.view) ≡ true → l.sheet.changes ≡ true → AreDone l.sheet ((l.channel, l.view) ∷ history) l.self.latest l.index;
  row : (history : List Viewed) → AreKept l.sheet history l.fn.self.latest
      → l.self.row ++ cells l.sheet history (l.channel, l.view) (drop l.index l.sheet.signals.now) ≡ l.fn.self.row ++ cells l.sheet history (l.channel, l.view) l.sheet.signals.now;
  any : (history : List Viewed) → AreKept l.sheet history l.fn.self.latest
      → (l.any || shows_any l.sheet history (l.channel, l.view) (drop l.index l.sheet.signals.now)) ≡ shows_any l.sheet history (l.channel, l.view) l.sheet.signals.now;
}
