-- A page on the way.
use Rattle.std.specs.Prelude.{◌≡◌, ◌≤◌, ◌<◌, ◌⊎◌, ℕ, ◌+◌, Bool, true, false, List, ◌++◌, length, take}
use Rattle.signal_dictionary.specs.declared.signals.Signal.{Signal}
use Rattle.bench_decode.specs.ByTime.{Told, chosen}
use Rattle.bench_decode.specs.Numbering.{AreCounts}
use Rattle.bench_select.specs.Viewed.{channels_of, Viewed}
use Rattle.bench_select.specs.declared.selection.Selection.{Selection}
use Rattle.bench_view.specs.Lines.{lines_text}
use Rattle.bench_view.specs.Pages.{most_messages, most_bytes}
use Rattle.bench_view.specs.declared.filling.Filling.{Filling}

-- with so many messages, of so many bytes, there is room for one of so many more, or none
abbrev pub HasRoom : ℕ → ℕ → ℕ → Type 0
HasRoom shown size line = (shown < most_messages) × (size + line ≤ most_bytes)

abbrev pub HasNone : ℕ → ℕ → ℕ → Type 0
HasNone shown size line = (most_messages ≤ shown) ⊎ (most_bytes < size + line)

-- the page has no room for a message behind so many
pub record IsShut (signals : List Signal) (messages : List Told) (shown : ℕ) : Type 0 where
  pub below : shown < length messages
  pub because : (shown ≡ most_messages) ⊎ (most_bytes < length (lines_text signals (take (shown + 1) messages)))

-- the lines of these messages were put, as far as there was room for them
pub record IsFilled (front : List ℕ) (signals : List Signal) (messages : List Told) (f : Filling) : Type 0 where
  pub chosen : f.chosen ≡ length messages
  pub text : f.text.items ≡ front ++ lines_text signals (take f.shown messages)
  pub size : f.size ≡ length (lines_text signals (take f.shown messages))
  pub small : f.size ≤ most_bytes
  pub few : f.shown ≤ most_messages
  pub whole : f.full ≡ false → f.shown ≡ length messages
  pub shut : f.full ≡ true → IsShut signals messages f.shown

-- the chosen ones of a history, and how many messages each channel had
pub record AreFilled (front : List ℕ) (signals : List Signal) (s : Selection) (history : List Viewed) (f : Filling)
    : Type 0
  where
    pub filled : IsFilled front signals (chosen s history) f
    pub counts : AreCounts (channels_of history) f.numbers.counts.items
