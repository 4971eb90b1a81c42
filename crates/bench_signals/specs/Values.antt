-- The values of signals in the messages of a recording (own choice). A history of messages stands newest first, and the
-- number of a message in the file is how many stand before it, and 1.
use Rattle.std.specs.Prelude.{ℕ, ◌+◌, ◌==◌, Bool, false, ◌&&◌, if◌then◌else◌, List, [], ◌∷◌, length}
use Rattle.std.specs.Prelude.{Option, Some, None, option_map}
use Rattle.std.specs.Str.{bytes_eq}
use Rattle.ch11_layout.specs.Stamps.{Recorded}
use Rattle.signal_dictionary.specs.declared.signals.Signal.{Signal}
use Rattle.signal_values.specs.Texts.{value_text}
use Rattle.bench_select.specs.Selecting.{selects}
use Rattle.bench_select.specs.Signals.{value_in}
use Rattle.bench_select.specs.Viewed.{Viewed}
use Rattle.bench_select.specs.declared.selection.Selection.{Selection}

-- the text of a signal's value in a message that has the signal; it is empty where there is no value
abbrev pub text_in : Signal → ℕ → Recorded → Option (List ℕ)
text_in s channel m = option_map (value_text s.kind) (value_in s channel m)

-- that text in a message of a channel that is selected
abbrev pub told_in : Selection → Signal → ℕ → List Viewed → Viewed → Option (List ℕ)
told_in selection s channel earlier h =
    if (h.0 == channel) && selects selection (length earlier + 1) h.0 h.1 then text_in s h.0 h.1 else None

abbrev pub first_of : Option (List ℕ) → Option (List ℕ) → Option (List ℕ)
first_of None other = other
first_of (Some text) other = Some text

-- the text of the latest value of a signal in a channel
abbrev pub latest_text : Selection → Signal → ℕ → List Viewed → Option (List ℕ)
latest_text selection s channel [] = None
latest_text selection s channel (h ∷ earlier) =
    first_of (told_in selection s channel earlier h) (latest_text selection s channel earlier)

-- a value is told as the one before it was
abbrev pub is_same : List ℕ → Option (List ℕ) → Bool
is_same text None = false
is_same text (Some before) = bytes_eq before text

-- of a value what is shown: itself, but where changes alone are asked for nothing of one that is that before it
abbrev pub shown_if : Bool → Option (List ℕ) → Option (List ℕ) → Option (List ℕ)
shown_if changes None before = None
shown_if changes (Some text) before = if changes && is_same text before then None else Some text
