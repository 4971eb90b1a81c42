-- What a draft asks for, as plain data: its numbers, and its data words wherever they lie in memory.
use Rattle.std.specs.Prelude.{ℕ, Bool, List, Option, Some, None, ◌||◌, ◌==◌, nat_le, if◌then◌else◌, option_map}
use Rattle.std.specs.Borrow.{Bor}
use Rattle.mil_mode.specs.Codes.{transmit_vector_word, transmit_last_command, transmit_bit_word}
use Rattle.mil_mode.specs.Codes.{last_without_word, first_reserved_with_word}
use Rattle.mil_message.specs.declared.drafts.ModeSubaddress.{ModeSubaddress}
use Rattle.mil_message.specs.declared.drafts.Draft.{Draft}
use Rattle.mil_message.specs.declared.drafts.Draft.TheVariants.{ToTerminal, FromTerminal, Between, Mode, ModeFrom}
use Rattle.mil_message.specs.declared.drafts.Draft.TheVariants.{ModeTo, ToAll, BetweenAll, ModeAll, ModeAllTo}

-- the words of a mode form are None where none are asked for
pub data Request : Type 0 where
  -- address, subaddress, data words
  to_terminal : ℕ → ℕ → List ℕ → Request
  -- address, subaddress, count
  from_terminal : ℕ → ℕ → ℕ → Request
  -- the sender and its subaddress, the receiver and its subaddress, count
  between : ℕ → ℕ → ℕ → ℕ → ℕ → Request
  -- address, subaddress, code, data words
  mode : ℕ → ModeSubaddress → ℕ → Option (List ℕ) → Request
  mode_from : ℕ → ModeSubaddress → ℕ → Option (List ℕ) → Request
  mode_to : ℕ → ModeSubaddress → ℕ → Option (List ℕ) → Request
  -- subaddress, data words
  to_all : ℕ → List ℕ → Request
  -- the sender and its subaddress, the receivers' subaddress, count
  between_all : ℕ → ℕ → ℕ → ℕ → Request
  -- subaddress, code, data words
  mode_all : ModeSubaddress → ℕ → Option (List ℕ) → Request
  mode_all_to : ModeSubaddress → ℕ → Option (List ℕ) → Request

-- the words that are written, where any are
abbrev pub written : Option (Bor (List ℕ)) → Option (List ℕ)
written words = option_map (λ w. w.now) words

abbrev pub request_of : Draft → Request
request_of (ToTerminal address subaddress words) = to_terminal address subaddress words.now
request_of (FromTerminal address subaddress count) = from_terminal address subaddress count
request_of (Between sender sender_subaddress receiver receiver_subaddress count) = between sender sender_subaddress
    receiver receiver_subaddress count
request_of (Mode address subaddress code words) = mode address subaddress code (written words)
request_of (ModeFrom address subaddress code words) = mode_from address subaddress code (written words)
request_of (ModeTo address subaddress code words) = mode_to address subaddress code (written words)
request_of (ToAll subaddress words) = to_all subaddress words.now
request_of (BetweenAll sender sender_subaddress receiver_subaddress count) = between_all sender sender_subaddress
    receiver_subaddress count
request_of (ModeAll subaddress code words) = mode_all subaddress code (written words)
request_of (ModeAllTo subaddress code words) = mode_all_to subaddress code (written words)

-- three codes have a data word from the terminal, and so have the reserved ones where no word is written
abbrev is_from : ℕ → Option (List ℕ) → Bool
is_from code None = code == transmit_vector_word || code == transmit_last_command || code == transmit_bit_word
    || nat_le first_reserved_with_word code
is_from code (Some words) = code == transmit_vector_word || code == transmit_last_command || code == transmit_bit_word

-- a mode command to one terminal, whose code and words choose the form (own choice)
abbrev pub mode_request : ℕ → ModeSubaddress → ℕ → Option (List ℕ) → Request
mode_request address subaddress code words =
    if nat_le code last_without_word then mode address subaddress code words
    else if is_from code words then mode_from address subaddress code words
    else mode_to address subaddress code words

-- a mode command to all terminals, whose code chooses the form (own choice)
abbrev pub mode_request_to_all : ModeSubaddress → ℕ → Option (List ℕ) → Request
mode_request_to_all subaddress code words =
    if nat_le code last_without_word then mode_all subaddress code words else mode_all_to subaddress code words
