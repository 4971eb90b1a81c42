-- Where data words of the controller go, by command (MIL-STD-1553B 4.3.3.6): to a subaddress of one terminal or of all,
-- or with a mode code to one terminal or to all.
use Rattle.std.specs.Prelude.{ℕ, ◌≢◌, ◌≤◌, Bool, false, ◌&&◌, ◌||◌, ◌==◌, nat_le, length, Option, Some, None}
use Rattle.mil_word.specs.Fields.{highest_address, highest_subaddress, most_words}
use Rattle.mil_message.specs.declared.forms.Form.{Form}
use Rattle.mil_message.specs.declared.forms.Form.TheVariants.{ToTerminal, ModeTo, ToAll, ModeAllTo}
use Rattle.mil_message.specs.Forms.{data_words}
use Rattle.controller_host.specs.declared.destinations.Destination.{Destination}
use Rattle.controller_host.specs.declared.destinations.Destination.TheVariants.{Terminal, All, Mode, ModeToAll}

-- where the controller's data words of a message go; those of a message between terminals are not the controller's
abbrev pub destination_of : Form → Option Destination
destination_of (ToTerminal address subaddress words) = Some (Terminal address subaddress)
destination_of (ToAll subaddress words) = Some (All subaddress)
destination_of (ModeTo address subaddress code word) = Some (Mode address code)
destination_of (ModeAllTo subaddress code word) = Some (ModeToAll code)
destination_of _ = None

abbrev pub is_same : Destination → Destination → Bool
is_same (Terminal address subaddress) (Terminal a s) = address == a && subaddress == s
is_same (All subaddress) (All s) = subaddress == s
is_same (Mode address code) (Mode a c) = address == a && code == c
is_same (ModeToAll code) (ModeToAll c) = code == c
is_same _ _ = false

abbrev pub is_at : Destination → Option Destination → Bool
is_at d None = false
is_at d (Some other) = is_same d other

-- whether a message carries a word of the controller's at a place of a destination; places count from 1
abbrev pub carries : Destination → ℕ → Form → Bool
carries d place form = is_at d (destination_of form) && nat_le place (length (data_words form))

-- a mode code with a data word that the controller sends: synchronize with data word, and those from 20 on
-- (4.3.3.5.1.7)
abbrev pub is_code : ℕ → Bool
is_code code = code == 17 || nat_le 20 code && nat_le code 31

-- each number of it is in its range
abbrev pub IsCode : ℕ → Type 0
IsCode code = (17 ≤ code) × (code ≤ 31) × (code ≢ 18) × (code ≢ 19)

abbrev pub IsSubaddress : ℕ → Type 0
IsSubaddress sub = (1 ≤ sub) × (sub ≤ highest_subaddress)

abbrev pub IsDestination : Destination → Type 0
IsDestination (Terminal address subaddress) = (address ≤ highest_address) × IsSubaddress subaddress
IsDestination (All subaddress) = IsSubaddress subaddress
IsDestination (Mode address code) = (address ≤ highest_address) × IsCode code
IsDestination (ModeToAll code) = IsCode code

-- how many data words there go in one message at most: a mode command has one
abbrev pub most_words_to : Destination → ℕ
most_words_to (Terminal address subaddress) = most_words
most_words_to (All subaddress) = most_words
most_words_to (Mode address code) = 1
most_words_to (ModeToAll code) = 1

-- words may go to a place of a destination
pub record IsPlace (d : Destination) (place : ℕ) : Type 0 where
  pub destination : IsDestination d
  pub low : 1 ≤ place
  pub high : place ≤ most_words_to d
