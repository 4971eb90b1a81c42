-- Small words that all layers above share: lines and bits compared, and what a wave says.
use Rattle.std.specs.Prelude.{ℕ, Bool, true, false, not, Option, Some, None}
use Rattle.std.specs.Option.{option_and_then}
use Rattle.mil_word.specs.declared.Line.{Line}
use Rattle.mil_word.specs.declared.Line.TheVariants.{A, B}
use Rattle.mil_word.specs.declared.Sync.{Sync}
use Rattle.mil_word.specs.declared.Sync.TheVariants.{CommandSync, DataSync}
use Rattle.mil_word.specs.declared.Word.{Word}
use Rattle.mil_word.specs.Wave.{wave_of, word_of}

abbrev pub same_line : Line → Line → Bool
same_line A A = true
same_line A B = false
same_line B A = false
same_line B B = true

abbrev pub same_bool : Bool → Bool → Bool
same_bool true b = b
same_bool false b = not b

-- the value, where the test passes
abbrev pub value_if : Bool → ℕ → Option ℕ
value_if true v = Some v
value_if false v = None

abbrev pub is_command_sync : Sync → Bool
is_command_sync CommandSync = true
is_command_sync DataSync = false

-- the value of a sound word with command sync, which a command or a status word has
abbrev pub command_in : ℕ → Option ℕ
command_in wave = option_and_then (λ (w : Word). value_if (is_command_sync w.sync) w.value) (word_of wave)

-- the value of a sound word with data sync
abbrev pub data_in : ℕ → Option ℕ
data_in wave = option_and_then (λ (w : Word). value_if (not (is_command_sync w.sync)) w.value) (word_of wave)

-- the wave of a command or a status word
abbrev pub command_wave : ℕ → ℕ
command_wave value = wave_of (record { sync = CommandSync; value = value })

-- the wave of a data word
abbrev pub data_wave : ℕ → ℕ
data_wave value = wave_of (record { sync = DataSync; value = value })
