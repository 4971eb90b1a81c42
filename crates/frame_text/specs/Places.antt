-- Places in a text: lines count from 1 by LF, columns from 1 by bytes (own choice).
use Rattle.std.specs.Prelude.{◌≡◌, ℕ, ◌+◌, ◌-◌, not, List, ◌++◌, length, take, reverse, Result, Ok, Err}
use Rattle.std.specs.List.{count_by, take_while}
use Rattle.text_lines.specs.Lines.{is_line_end}
use Rattle.frame_text.specs.Starts.{last_tokens}
use Rattle.frame_text.specs.Reading.{Failure}
use Rattle.frame_text.specs.declared.faults.Cause.{Cause}
use Rattle.frame_text.specs.declared.faults.Cause.TheVariants as cause
use Rattle.frame_text.specs.declared.faults.Place.{Place}
use Rattle.frame_text.specs.declared.faults.TextFault.{TextFault}
use Rattle.frame_text.specs.declared.faults.TextFault.TheVariants as fault
use Rattle.frame_text.specs.declared.faults.ScriptError.{ScriptError}
use Rattle.frame_text.specs.declared.faults.ScriptError.TheVariants as error

-- how many bytes stand behind the last line end
abbrev pub since_line_end : List ℕ → ℕ
since_line_end before = length (take_while (λ b. not (is_line_end b)) (reverse before))

-- the place directly behind these bytes
abbrev pub place_behind : List ℕ → Place
place_behind before = record { line = 1 + count_by is_line_end before; column = 1 + since_line_end before }

-- a place in a text, or directly behind it
abbrev pub IsPlaceOf : List ℕ → Place → Type 0
IsPlaceOf text place = (before : List ℕ) × (after : List ℕ) × (text ≡ before ++ after) × (place ≡ place_behind before)

-- the place of the token with which so many tokens are left, directly behind the text where none is
abbrev pub token_place : ℕ → List ℕ → Place
token_place left text = place_behind (take (length text - length (last_tokens left text)) text)

-- the place of a fault: too many messages are told at the beginning of the text, any other fault at its token
abbrev pub fault_place : List ℕ → Cause → ℕ → Place
fault_place text cause.Messages left = record { line = 1; column = 1 }
fault_place text c left = token_place left text

-- a reading, its fault with its place in the text
abbrev pub placed : {Y : Type 0} → List ℕ → Result Y Failure → Result Y (Cause × Place)
placed text (Ok y) = Ok y
placed text (Err f) = Err (f.0, fault_place text f.0 f.1)

-- the fault that is told is the one that reading comes to, and its place; want of memory says nothing
abbrev pub TellsFault : {Y : Type 0} → List ℕ → Result Y Failure → ScriptError → Type 0
TellsFault text read (error.Text c place) = placed text read ≡ Err (c, place)
TellsFault text read (error.Memory place) = Unit {0}

-- a fault of the text is told with its place
abbrev pub HasPlaceOfFault : List ℕ → TextFault → ScriptError → Type 0
HasPlaceOfFault text (fault.Text c left) (error.Text d place) = place ≡ fault_place text c left
HasPlaceOfFault text (fault.Memory left) (error.Memory place) = Unit {0}
HasPlaceOfFault text _ _ = ⊥

abbrev pub StandsIn : List ℕ → ScriptError → Type 0
StandsIn text (error.Text c place) = IsPlaceOf text place
StandsIn text (error.Memory place) = IsPlaceOf text place
