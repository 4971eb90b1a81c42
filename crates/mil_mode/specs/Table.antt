-- The mode codes: MIL-STD-1553B 4.3.3.5.1.7 and its table I, with Notice 2.
use Rattle.std.specs.Prelude.{ℕ, Bool, true, false, ◌&&◌, ◌||◌, not, ◌==◌, nat_le, List, [], ◌∷◌, Option, Some, None}
use Rattle.std.specs.Prelude.{is_some, if◌then◌else◌, find}
use Rattle.mil_mode.specs.declared.ModeRow.{ModeRow}
use Rattle.mil_mode.specs.declared.ModeRow.TheVariants.{Known, Reserved, Undefined}
use Rattle.mil_mode.specs.Codes.{dynamic_bus_control, synchronize, transmit_status_word, initiate_self_test}
use Rattle.mil_mode.specs.Codes.{transmitter_shutdown, override_shutdown, inhibit_terminal_flag, override_inhibit}
use Rattle.mil_mode.specs.Codes.{reset_remote_terminal, transmit_vector_word, synchronize_with_word}
use Rattle.mil_mode.specs.Codes.{transmit_last_command, transmit_bit_word, selected_shutdown}
use Rattle.mil_mode.specs.Codes.{override_selected_shutdown, first_reserved, last_reserved_without_word}
use Rattle.mil_mode.specs.Codes.{first_reserved_with_word, last_code}

-- the data word that goes with a mode code
pub data DataWord : Type 0 where
  no_word : DataWord
  sent_by_terminal : DataWord
  received_by_terminal : DataWord

-- a known mode code
pub record Mode : Type 0 where
  pub code : ℕ
  -- the T/R bit
  pub transmit : Bool
  pub word : DataWord
  -- whether all terminals may be told it at once
  pub broadcast : Bool

abbrev mode : ℕ → Bool → DataWord → Bool → Mode
mode code transmit word broadcast = record { code = code; transmit = transmit; word = word; broadcast = broadcast }

-- the known codes: the code, the T/R bit, the data word, and whether it may be broadcast
abbrev pub known_modes : List Mode
known_modes =
    mode dynamic_bus_control true no_word false
    ∷ mode synchronize true no_word true
    ∷ mode transmit_status_word true no_word false
    ∷ mode initiate_self_test true no_word true
    ∷ mode transmitter_shutdown true no_word true
    ∷ mode override_shutdown true no_word true
    ∷ mode inhibit_terminal_flag true no_word true
    ∷ mode override_inhibit true no_word true
    ∷ mode reset_remote_terminal true no_word true
    ∷ mode transmit_vector_word true sent_by_terminal false
    ∷ mode synchronize_with_word false received_by_terminal true
    ∷ mode transmit_last_command true sent_by_terminal false
    ∷ mode transmit_bit_word true sent_by_terminal false
    ∷ mode selected_shutdown false received_by_terminal true
    ∷ mode override_selected_shutdown false received_by_terminal true
    ∷ []

abbrev same_bool : Bool → Bool → Bool
same_bool true b = b
same_bool false b = not b

-- the row of a T/R bit and a code, if they have one
abbrev pub known_mode : Bool → ℕ → Option Mode
known_mode transmit code = find (λ m. m.code == code && same_bool m.transmit transmit) known_modes

abbrev pub is_known : Bool → ℕ → Bool
is_known transmit code = is_some (known_mode transmit code)

-- kept for later by the standard: codes 9 to 15 without a data word, codes 22 to 31 with one, sent or received
abbrev pub is_reserved : Bool → ℕ → Bool
is_reserved transmit code = transmit && nat_le first_reserved code && nat_le code last_reserved_without_word
    || nat_le first_reserved_with_word code && nat_le code last_code

-- what the table has for a T/R bit and a code
abbrev pub row_of : Bool → ℕ → ModeRow
row_of transmit code = if is_known transmit code then Known else if is_reserved transmit code then Reserved
    else Undefined

abbrev allows_broadcast : Option Mode → Bool
allows_broadcast None = false
allows_broadcast (Some m) = m.broadcast

-- whether the code may be sent to all terminals at once: known, and marked so
abbrev pub is_broadcast_mode : Bool → ℕ → Bool
is_broadcast_mode transmit code = allows_broadcast (known_mode transmit code)

abbrev words_with : DataWord → ℕ
words_with no_word = 0
words_with sent_by_terminal = 1
words_with received_by_terminal = 1

abbrev words_in_mode : Option Mode → ℕ → ℕ
words_in_mode (Some m) code = words_with m.word
words_in_mode None code = if nat_le first_reserved_with_word code && nat_le code last_code then 1 else 0

-- how many data words go with the code: a known one's, one with codes 22 to 31, else none
abbrev pub data_word_count : Bool → ℕ → ℕ
data_word_count transmit code = words_in_mode (known_mode transmit code) code

-- whether a terminal here carries the code out: known, and not one of the two that select a transmitter
-- by a data word, which are for more than two lines (own choice)
abbrev pub is_legal_mode : Bool → ℕ → Bool
is_legal_mode transmit code = is_known transmit code && not (code == selected_shutdown)
    && not (code == override_selected_shutdown)
