-- What a bus keeps beside its stations, to find those that an event concerns (inside the bus).
use Rattle.std.specs.Prelude.{◌≡◌, ℕ, ◌<◌, ◌≤◌, ◌==◌, Bool, false, ◌&&◌, ◌||◌, List, length, get_or, slice_index}
use Rattle.std.specs.Prelude.{Option, Some, None, [], ◌∷◌}
use Rattle.std.specs.Option.{option_or}
use Rattle.std.specs.Int.{bit_at}
use Rattle.mil_word.specs.declared.Line.{Line}
use Rattle.mil_word.specs.declared.Word.{Word}
use Rattle.mil_word.specs.Words.{is_command_sync}
use Rattle.mil_word.specs.Fields.{address_of, all_terminals, field_values, is_broadcast}
use Rattle.mil_terminal.specs.Station.{Station}
use Rattle.mil_terminal.specs.Windows.{is_listening}
use Rattle.mil_bus.specs.Exchange.{Offer}

-- no window is open on either line
abbrev pub IsClosed : Station → Type 0
IsClosed s = (line : Line) → is_listening s.own line s.history ≡ false

-- a bit is clear only where no window is open
abbrev pub AreClosed : ℕ → List Station → Type 0
AreClosed opened stations = (k : ℕ) (d : Station) → k < length stations → bit_at opened k ≡ 0
    → IsClosed (get_or stations k d)

-- under each address stands the place of its station
pub record IsAddressIndex (places : List ℕ) (stations : List Station) : Type 0 where
  pub long : length places ≡ field_values
  pub few : length stations ≤ all_terminals
  pub low : (k : ℕ) (d : Station) → k < length stations → (get_or stations k d).own < field_values
  pub stands : (k : ℕ) (d : Station) → k < length stations → slice_index places (get_or stations k d).own ≡ k

-- an event that makes f of a station has come to those before a place
pub record HasCome (f : Station → Station) (old new : List Station) (place opened : ℕ) : Type 0 where
  pub long : length new ≡ length old
  pub met : (k : ℕ) (d : Station) → k < place → get_or new k d ≡ f (get_or old k d)
  pub rest : (k : ℕ) (d : Station) → place ≤ k → get_or new k d ≡ get_or old k d
  pub closed : (k : ℕ) (d : Station) → k < place → bit_at opened k ≡ 0 → IsClosed (get_or new k d)

-- the first that stations answer to what comes to them, in order of address
abbrev pub first_answer : (Station → Option Offer) → List Station → Option Offer
first_answer f [] = None
first_answer f (s ∷ ss) = option_or (f s) (first_answer f ss)

-- whether the word is a command to this address or to all
abbrev pub is_command_to : ℕ → Option Word → Bool
is_command_to own None = false
is_command_to own (Some word) = is_command_sync word.sync && (address_of word.value == own || is_broadcast word.value)

-- the same of stations whose addresses are all below a bound
pub record IsIndexBelow (bound : ℕ) (places : List ℕ) (stations : List Station) : Type 0 where
  pub long : length places ≡ field_values
  pub few : length stations ≤ bound
  pub low : (k : ℕ) (d : Station) → k < length stations → (get_or stations k d).own < bound
  pub stands : (k : ℕ) (d : Station) → k < length stations → slice_index places (get_or stations k d).own ≡ k
