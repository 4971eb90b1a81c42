-- Which messages have a signal, and the bits that it is in them (own choice). The data words of a message are those
-- that are neither commands nor status words (MIL-STD-1553B 4.3.3.6).
use Rattle.std.specs.Prelude.{ℕ, ◌+◌, ◌-◌, Bool, not, ◌&&◌, nat_le, if◌then◌else◌}
use Rattle.std.specs.Prelude.{Option, Some, None, is_some, option_map}
use Rattle.ch11_layout.specs.BlockStatus.{has_error}
use Rattle.ch11_layout.specs.Layouts.{layout_of, word_of}
use Rattle.ch11_layout.specs.Replies.{data_count}
use Rattle.ch11_layout.specs.Stamps.{Recorded}
use Rattle.signal_dictionary.specs.declared.signals.Place.{Place}
use Rattle.signal_dictionary.specs.declared.signals.Place.TheVariants.{Bits, Pair}
use Rattle.signal_dictionary.specs.declared.signals.Signal.{Signal}
use Rattle.signal_dictionary.specs.Fitting.{width_of}
use Rattle.signal_values.specs.Fields as fields
use Rattle.signal_values.specs.Readings as values
use Rattle.bench_select.specs.Selectors.{is_chosen, selects_commands}

-- the data word at a place, counted from 1
abbrev pub data_word : Recorded → ℕ → Option ℕ
data_word m place =
    if nat_le 1 place && nat_le place (data_count m)
    then Some (word_of m.bytes ((layout_of m).data_start + place - 1)) else None

abbrev pub bits_if : ℕ → ℕ → Option ℕ → Option ℕ
bits_if high low None = None
bits_if high low (Some word) = Some (fields.bits_of word high low)

abbrev pub pair_if : Option ℕ → Option ℕ → Option ℕ
pair_if None second = None
pair_if (Some first) None = None
pair_if (Some first) (Some second) = Some (fields.pair_of first second)

-- the bits of a place
abbrev pub bits_at : Place → Recorded → Option ℕ
bits_at (Bits word high low) m = bits_if high low (data_word m word)
bits_at (Pair first) m = pair_if (data_word m first) (data_word m (first + 1))

-- the bits of a signal in a message of its channel and its commands that has no error and has the data words
abbrev pub field_in : Signal → ℕ → Recorded → Option ℕ
field_in s channel m =
    if is_chosen s.channel channel && not (has_error m.block) && selects_commands s.selector m
    then bits_at s.place m else None

-- and their value
abbrev pub value_in : Signal → ℕ → Recorded → Option values.Value
value_in s channel m = option_map (values.value_in (width_of s.place) s.kind) (field_in s channel m)

abbrev pub has_signal : Signal → ℕ → Recorded → Bool
has_signal s channel m = is_some (field_in s channel m)
