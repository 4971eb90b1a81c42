-- The action that a text spells, or the first fault in it from left to right.
use Rattle.std.specs.Prelude.{ℕ, Bool, true, false, ◌&&◌, nat_le, List, [], ◌∷◌, drop, Result, Ok, Err, Option, Some}
use Rattle.std.specs.Prelude.{None, codes, if◌then◌else◌}
use Rattle.std.proofs.Common.{zero, suc}
use Rattle.std.specs.Str.{bytes_eq}
use Rattle.numerals.specs.Numerals as numerals
use Rattle.mil_word.specs.declared.Line.{Line}
use Rattle.mil_word.specs.declared.Line.TheVariants.{A, B}
use Rattle.mil_word.specs.Timing.{least_response, latest_response}
use Rattle.mil_word.specs.Fields.{greatest_field, highest_put_up, highest_subaddress, most_words}
use Rattle.mil_host.specs.Values.{PutUp, Marked, ModeMarked, Ramped, least_set_gap, most_set_gap}
use Rattle.text_lines.specs.Words.{Text, begins_with, words}
use Rattle.mil_host.specs.declared.reading.BadAction.{BadAction}
use Rattle.mil_host.specs.declared.reading.BadAction.TheVariants.{Word, Number, Range}
use Rattle.mil_host.specs.declared.names.Name.{Name}
use Rattle.mil_host.specs.declared.names.Name.TheVariants.{TransmitName, BusyName, ServiceName, SubsystemName}
use Rattle.mil_host.specs.declared.names.Name.TheVariants.{FaultName, ControlName, VectorName, SelfTestName}
use Rattle.mil_host.specs.declared.names.Name.TheVariants.{IllegalName, LegalName, ResponseName, DeafName, MuteName}
use Rattle.mil_host.specs.declared.names.Name.TheVariants.{BroadcastName, PowerName, BitName, GapName, RampName}
use Rattle.mil_host.specs.declared.actions.Action.{Action}
use Rattle.mil_host.specs.declared.actions.Action.TheVariants.{Transmit, Busy, Service, Subsystem, Fault, Control}
use Rattle.mil_host.specs.declared.actions.Action.TheVariants.{Vector, SelfTest, Illegal, Legal, Response, Deaf, Mute}
use Rattle.mil_host.specs.declared.actions.Action.TheVariants.{IllegalMode, LegalMode, Broadcast, Power, BitWord}
use Rattle.mil_host.specs.declared.actions.Action.TheVariants.{ServiceOnce, Gap, Ramp}

abbrev pub Read : Type 0 → Type 0
Read X = Result X BadAction

-- what is read first, and then what is read with it; the first fault counts
abbrev pub and_then : {X Y : Type 0} → Read X → (X → Read Y) → Read Y
and_then (Ok x) next = next x
and_then (Err fault) next = Err fault

-- a number from low to high
abbrev pub within : ℕ → ℕ → Option ℕ → Read ℕ
within low high None = Err Number
within low high (Some n) = if nat_le low n && nat_le n high then Ok n else Err Range

-- a number of this range
abbrev pub number_of : ℕ → ℕ → Text → Read ℕ
number_of low high word = within low high (numerals.number_of word)

abbrev pub value_or_fault : Option ℕ → Read ℕ
value_or_fault None = Err Number
value_or_fault (Some n) = Ok n

abbrev pub data_of : Text → Read ℕ
data_of word = value_or_fault (numerals.data_word_of word)

-- the first of the words is a number of this range, a data word, `on` or `off`, a line, or a direction

abbrev pub number_in : ℕ → ℕ → List Text → Read ℕ
number_in low high [] = Err Word
number_in low high (word ∷ rest) = number_of low high word

abbrev pub data_in : List Text → Read ℕ
data_in [] = Err Word
data_in (word ∷ rest) = data_of word

abbrev pub one_of : Text → Text → Text → Read Bool
one_of first second word = if bytes_eq word first then Ok true else if bytes_eq word second then Ok false else Err Word

abbrev pub one_in : Text → Text → List Text → Read Bool
one_in first second [] = Err Word
one_in first second (word ∷ rest) = one_of first second word

abbrev pub switch_in : List Text → Read Bool
switch_in rest = one_in (codes "on") (codes "off") rest

abbrev pub line_of : Text → Read Line
line_of word = and_then (one_of (codes "A") (codes "B") word) (λ first. Ok (if first then A else B))

abbrev pub line_in : List Text → Read Line
line_in [] = Err Word
line_in (word ∷ rest) = line_of word

abbrev pub direction_in : List Text → Read Bool
direction_in rest = one_in (codes "transmit") (codes "receive") rest

-- no word is left over
abbrev pub and_end : {X : Type 0} → List Text → X → Read X
and_end [] x = Ok x
and_end (word ∷ rest) x = Err Word

-- so many data words at most, to the end
abbrev pub all_data : ℕ → List Text → Read (List ℕ)
all_data room [] = Ok []
all_data zero (word ∷ rest) = Err Word
all_data (suc room) (word ∷ rest) = and_then (data_of word)
    (λ value. and_then (all_data room rest) (λ values. Ok (value ∷ values)))

abbrev pub some_data : List Text → Read (List ℕ)
some_data [] = Err Word
some_data (word ∷ rest) = all_data most_words (word ∷ rest)

-- what follows the name of an action

abbrev pub only_switch : List Text → Read Bool
only_switch rest = and_then (switch_in rest) (λ on. and_end (drop 1 rest) on)

-- a line, and `on` or `off`
abbrev pub only_line_switch : List Text → Read (Line × Bool)
only_line_switch rest = and_then (line_in rest)
    (λ line. and_then (switch_in (drop 1 rest)) (λ on. and_end (drop 2 rest) (line, on)))

abbrev pub only_data : List Text → Read ℕ
only_data rest = and_then (data_in rest) (λ value. and_end (drop 1 rest) value)

-- a time of this range
abbrev pub only_ticks : ℕ → ℕ → List Text → Read ℕ
only_ticks low high rest = and_then (number_in low high rest) (λ ticks. and_end (drop 1 rest) ticks)

-- a subaddress of 1 to 29, and 1 to 32 data words
abbrev pub only_words : List Text → Read PutUp
only_words rest =
    and_then (number_in 1 highest_put_up rest) (λ sub.
    and_then (some_data (drop 1 rest)) (λ values.
    Ok (record { sub = sub; words = values })))

-- a direction, a subaddress of 1 to 30 and a count of 1 to 32
abbrev pub only_mark : List Text → Read Marked
only_mark rest =
    and_then (direction_in rest) (λ transmit.
    and_then (number_in 1 highest_subaddress (drop 1 rest)) (λ sub.
    and_then (number_in 1 most_words (drop 2 rest)) (λ count.
    and_end (drop 3 rest) (record { transmit = transmit; sub = sub; count = count }))))

-- a direction and a mode code
abbrev pub only_mode_mark : List Text → Read ModeMarked
only_mode_mark rest =
    and_then (direction_in rest) (λ transmit.
    and_then (number_in 0 greatest_field (drop 1 rest)) (λ code.
    and_end (drop 2 rest) (record { transmit = transmit; code = code })))

-- a subaddress of 1 to 29, a place of 1 to 32, and two words
abbrev pub only_ramp : List Text → Read Ramped
only_ramp rest =
    and_then (number_in 1 highest_put_up rest) (λ sub.
    and_then (number_in 1 most_words (drop 1 rest)) (λ index.
    and_then (data_in (drop 2 rest)) (λ start.
    and_then (data_in (drop 3 rest)) (λ add.
    and_end (drop 4 rest) (record { sub = sub; index = index; start = start; add = add })))))

abbrev pub as_action : {X : Type 0} → (X → Action) → Read X → Read Action
as_action make (Ok x) = Ok (make x)
as_action make (Err fault) = Err fault

-- a mark of mode commands where the next word is `mode`, and else one of a subaddress
abbrev pub mark_in : (Marked → Action) → (ModeMarked → Action) → List Text → Read Action
mark_in at_sub of_mode rest =
    if begins_with (codes "mode") rest then as_action of_mode (only_mode_mark (drop 1 rest))
    else as_action at_sub (only_mark rest)

-- `once`, or `on` or `off`
abbrev pub service_in : List Text → Read Action
service_in rest = if begins_with (codes "once") rest then and_end (drop 1 rest) ServiceOnce
    else as_action Service (only_switch rest)

-- the action with a name, from the words behind it
abbrev pub of_name : Name → List Text → Read Action
of_name TransmitName rest = as_action Transmit (only_words rest)
of_name BusyName rest = as_action Busy (only_switch rest)
of_name ServiceName rest = service_in rest
of_name SubsystemName rest = as_action Subsystem (only_switch rest)
of_name FaultName rest = as_action Fault (only_switch rest)
of_name ControlName rest = as_action Control (only_switch rest)
of_name VectorName rest = as_action Vector (only_data rest)
of_name SelfTestName rest = as_action SelfTest (only_data rest)
of_name IllegalName rest = mark_in Illegal IllegalMode rest
of_name LegalName rest = mark_in Legal LegalMode rest
of_name ResponseName rest = as_action Response (only_ticks least_response latest_response rest)
of_name DeafName rest = as_action (λ told. Deaf told.0 told.1) (only_line_switch rest)
of_name MuteName rest = as_action (λ told. Mute told.0 told.1) (only_line_switch rest)
of_name BroadcastName rest = as_action Broadcast (only_switch rest)
of_name PowerName rest = as_action Power (only_switch rest)
of_name BitName rest = as_action BitWord (only_data rest)
of_name GapName rest = as_action Gap (only_ticks least_set_gap most_set_gap rest)
of_name RampName rest = as_action Ramp (only_ramp rest)

-- the name that a word spells
abbrev pub name_of : Text → Option Name
name_of word =
    if bytes_eq word (codes "transmit") then Some TransmitName
    else if bytes_eq word (codes "busy") then Some BusyName
    else if bytes_eq word (codes "service") then Some ServiceName
    else if bytes_eq word (codes "subsystem") then Some SubsystemName
    else if bytes_eq word (codes "fault") then Some FaultName
    else if bytes_eq word (codes "control") then Some ControlName
    else if bytes_eq word (codes "vector") then Some VectorName
    else if bytes_eq word (codes "selftest") then Some SelfTestName
    else if bytes_eq word (codes "illegal") then Some IllegalName
    else if bytes_eq word (codes "legal") then Some LegalName
    else if bytes_eq word (codes "response") then Some ResponseName
    else if bytes_eq word (codes "deaf") then Some DeafName
    else if bytes_eq word (codes "mute") then Some MuteName
    else if bytes_eq word (codes "broadcast") then Some BroadcastName
    else if bytes_eq word (codes "power") then Some PowerName
    else if bytes_eq word (codes "bit") then Some BitName
    else if bytes_eq word (codes "gap") then Some GapName
    else if bytes_eq word (codes "ramp") then Some RampName
    else None

abbrev pub of_word : Option Name → List Text → Read Action
of_word None rest = Err Word
of_word (Some name) rest = of_name name rest

abbrev pub in_words : List Text → Read Action
in_words [] = Err Word
in_words (word ∷ rest) = of_word (name_of word) rest

-- the action of a text
unfoldable pub action_in : Text → Read Action
action_in text = in_words (words text)
