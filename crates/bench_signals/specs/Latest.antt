-- The latest values that are kept while a recording is passed: one for each signal in each channel, where changes alone
-- are asked for.
use Rattle.std.specs.Prelude.{◌≡◌, ℕ, ◌+◌, ◌*◌, ◌<◌, ◌==◌, nat_eq, true, false, ◌&&◌, List, slice_get}
use Rattle.std.specs.Prelude.{Option, Some, None, option_map}
use Rattle.std.specs.HashMap.{get}
use Rattle.std.specs.Io.KnownBytes.{Appends}
use Rattle.signal_dictionary.specs.declared.signals.Signal.{Signal}
use Rattle.bench_clock.specs.declared.clock.Mark.{Mark}
use Rattle.bench_select.specs.Viewed.{Viewed}
use Rattle.bench_select.specs.declared.selection.Selection.{Selection}
use Rattle.bench_signals.specs.Sheets.{rows_of}
use Rattle.bench_signals.specs.Values.{latest_text}
use Rattle.bench_signals.specs.declared.latest.Latest.{Latest}
use Rattle.bench_signals.specs.declared.sheet.Sheet.{Sheet}

-- the value that is kept of the signal at a place of the dictionary in a channel
abbrev pub kept_at : Latest → ℕ → ℕ → Option (List ℕ)
kept_at l signal channel = option_map (λ v. v.items) (get nat_eq l.texts (signal * 65536 + channel))

-- this value is kept of a signal in a channel from now on, and all others are as before
pub record IsNoted (signal channel : ℕ) (text : List ℕ) (old new : Latest) : Type 0 where
  pub kept : kept_at new signal channel ≡ Some text
  pub others : (i c : ℕ) → c < 65536 → ((i == signal) && (c == channel)) ≡ false → kept_at new i c ≡ kept_at old i c

-- so it is where there is a value
abbrev pub IsPassed : ℕ → ℕ → Option (List ℕ) → Latest → Latest → Type 0
IsPassed signal channel None old new = new ≡ old
IsPassed signal channel (Some text) old new = IsNoted signal channel text old new

-- what is kept of each of these signals is its latest value
abbrev pub AreLatest : Selection → List Signal → List Viewed → Latest → Type 0
AreLatest selection signals history l =
    (i c : ℕ) (s : Signal) → slice_get signals i ≡ Some s → c < 65536
    → kept_at l i c ≡ latest_text selection s c history

-- where changes alone are asked for
abbrev pub AreKept : Sheet → List Viewed → Latest → Type 0
AreKept sheet history l = sheet.changes ≡ true → AreLatest sheet.table.selection sheet.signals.now history l

-- the rows of the messages so far were written
pub record AreWritten (sheet : Sheet) (clock : List Mark) (got : Option (List ℕ)) (history : List Viewed)
    (gets : Option (List ℕ)) (l : Latest) : Type 0 where
  pub kept : AreKept sheet history l
  pub written : Appends got gets (rows_of sheet clock history)
