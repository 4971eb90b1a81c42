use Rattle.std.proofs.Common.{◌≡◌, ◌+◌, true, List, ◌∷◌, length, take}
use Rattle.std.specs.Io.KnownBytes.{Appends}
use Rattle.csv.specs.Writing.{text_written}
use Rattle.bench_export.specs.Between.{IsBetween}
use Rattle.bench_select.specs.Viewed.{Viewed}
use Rattle.bench_signals.specs.Latest.{AreKept}
use Rattle.bench_signals.specs.Sheets.{values_text, is_selected}
use Rattle.bench_signals.proofs.Keeping.{AreDone, AreLeft}
use Rattle.bench_signals.proofs.rows.Room.write_values.Given as goal

-- the rows of the signals so far were written, and their values are kept
abbrev pub invariant-signals : goal.invariant-signals
invariant-signals g l = record {
  between : IsBetween l.writer;
  left : (history : List Viewed) → AreKept l.sheet history l.fn.self.latest → l.sheet.changes ≡ true → AreLeft l.sheet history l.self.latest l.index;
  done : (history : List Viewed) → AreKept l.sheet history l.fn.self.latest → is_selected l.sheet history (l.place.channel, l.view) ≡ true → l.sheet.changes ≡ true → AreDone l.sheet ((l.place.channel, l.view) ∷ history) l.self.latest l.index;
  written : (history : List Viewed) → AreKept l.sheet history l.fn.self.latest → l.place.number ≡ length history + 1
      → Appends (text_written g.W.Write.contents l.fn.writer) (text_written g.W.Write.contents l.writer) (values_text l.sheet l.fn.clock history (l.place.channel, l.view) (take l.index l.sheet.signals.now));
}
