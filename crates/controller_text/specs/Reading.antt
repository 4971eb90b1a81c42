-- What the host of a controller asks for in the words of a text, or the first fault in them from left to right (own
-- choice).
use Rattle.std.specs.Prelude.{ℕ, Bool, ◌||◌, List, [], ◌∷◌, drop, Result, Ok, Err}
use Rattle.std.specs.Prelude.{codes, if◌then◌else◌}
use Rattle.std.specs.List.{flat_map}
use Rattle.std.specs.Str.{bytes_eq}
use Rattle.numerals.specs.Numerals as numerals
use Rattle.text_lines.specs.Words.{Text}
use Rattle.mil_word.specs.Fields.{highest_address, highest_subaddress}
use Rattle.mil_word.specs.declared.Line.{Line}
use Rattle.mil_message.specs.declared.forms.Form.{Form}
use Rattle.mil_host.specs.declared.reading.BadAction.{BadAction}
use Rattle.mil_host.specs.declared.reading.BadAction.TheVariants.{Word, Range}
use Rattle.mil_host.specs.Reading.{Read, and_then, number_in, data_in, all_data, and_end, within}
use Rattle.mil_host.specs.Printing.{spaced_word}
use Rattle.frame_text.specs.Messages.{send_of_text}
use Rattle.frame_text.specs.declared.faults.ScriptError.{ScriptError}
use Rattle.frame_text.specs.declared.faults.ScriptError.TheVariants as refusal
use Rattle.frame_text.specs.declared.faults.Cause.{Cause}
use Rattle.frame_text.specs.declared.faults.Cause.TheVariants as cause
use Rattle.controller_host.specs.declared.destinations.Destination.{Destination}
use Rattle.controller_host.specs.declared.destinations.Destination.TheVariants.{Terminal, All, Mode, ModeToAll}
use Rattle.controller_host.specs.declared.controls.Control.{Control}
use Rattle.controller_host.specs.declared.controls.Control.TheVariants.{Data, Ramp, Insert}
use Rattle.controller_host.specs.Destinations.{is_code, most_words_to}
use Rattle.controller_host.specs.Values.{latest_tick}

-- what was read of some words, and the words behind it
abbrev pub Behind : Type 0 → Type 0
Behind X = Read (X × List Text)

abbrev pub number_first : ℕ → ℕ → List Text → Behind ℕ
number_first low high ws = and_then (number_in low high ws) (λ n. Ok (n, drop 1 ws))

abbrev pub data_first : List Text → Behind ℕ
data_first ws = and_then (data_in ws) (λ value. Ok (value, drop 1 ws))

-- a mode code with a data word that the controller sends
abbrev pub code_first : List Text → Behind ℕ
code_first ws = and_then (number_first 0 31 ws) (λ code. if is_code code.0 then Ok code else Err Range)

-- a destination: `rx A S`, `brx S`, `mode A C` or `bmode C`
abbrev pub destination_named : Text → List Text → Behind Destination
destination_named word ws =
    if bytes_eq word (codes "rx") then
    and_then (number_first 0 highest_address ws) (λ address. and_then (number_first 1 highest_subaddress address.1)
    (λ sub. Ok (Terminal address.0 sub.0, sub.1)))
    else if bytes_eq word (codes "brx") then
    and_then (number_first 1 highest_subaddress ws) (λ sub. Ok (All sub.0, sub.1))
    else if bytes_eq word (codes "mode") then
    and_then (number_first 0 highest_address ws) (λ address. and_then (code_first address.1)
    (λ code. Ok (Mode address.0 code.0, code.1)))
    else if bytes_eq word (codes "bmode") then and_then (code_first ws) (λ code. Ok (ModeToAll code.0, code.1))
    else Err Word

abbrev pub destination_first : List Text → Behind Destination
destination_first [] = Err Word
destination_first (word ∷ ws) = destination_named word ws

-- so many data words at most, to the end, and at least one
abbrev pub some_data : ℕ → List Text → Read (List ℕ)
some_data most [] = Err Word
some_data most (word ∷ rest) = all_data most (word ∷ rest)

abbrev pub data_control : List Text → Read Control
data_control ws =
    and_then (destination_first ws) (λ d. and_then (some_data (most_words_to d.0) d.1)
    (λ values. Ok (Data (record { destination = d.0; words = values }))))

abbrev pub ramp_control : List Text → Read Control
ramp_control ws =
    and_then (destination_first ws) (λ d. and_then (number_first 1 (most_words_to d.0) d.1)
    (λ place. and_then (data_first place.1) (λ begin. and_then (data_first begin.1) (λ add. and_end add.1
    (Ramp (record { destination = d.0; place = place.0; start = begin.0; add = add.0 }))))))

-- a tick of up to fifteen digits, at most 2^47
abbrev pub tick_of : Text → Read ℕ
tick_of word = within 0 latest_tick (numerals.spelled 10 1 15 word)

abbrev pub tick_word : List Text → Behind ℕ
tick_word [] = Err Word
tick_word (word ∷ ws) = and_then (tick_of word) (λ tick. Ok (tick, ws))

-- `at TICK` in front; tick 0 where it is left out
abbrev pub tick_first : List Text → Behind ℕ
tick_first [] = Err Word
tick_first (word ∷ ws) = if bytes_eq word (codes "at") then tick_word ws else Ok (0, word ∷ ws)

-- why a script would refuse a message: numbers that no message has are out of range, all else is a wrong word
abbrev pub bad_message : Cause → BadAction
bad_message (cause.Message bad) = Range
bad_message _ = Word

abbrev pub told_fault : ScriptError → BadAction
told_fault (refusal.Text cause place) = bad_message cause
told_fault (refusal.Memory place) = Word

abbrev pub as_control_read : Result (Line × Form) Cause → Read (Line × Form)
as_control_read (Ok read) = Ok read
as_control_read (Err why) = Err (bad_message why)

-- whether a word names a line
abbrev pub names_line : Text → Bool
names_line word = bytes_eq word (codes "A") || bytes_eq word (codes "B")

-- the line is a word; the message is read by the tokens of a script, which spaces part as they part words
abbrev pub message_in : List Text → Read (Line × Form)
message_in [] = Err Word
message_in (line ∷ ws) =
    if names_line line then as_control_read (send_of_text (flat_map spaced_word (line ∷ ws))) else Err Word

abbrev pub insert_control : List Text → Read Control
insert_control ws =
    and_then (tick_first ws) (λ tick. and_then (message_in tick.1)
    (λ send. Ok (Insert (record { tick = tick.0; line = send.0; message = send.1 }))))

abbrev pub control_named : Text → List Text → Read Control
control_named word ws =
    if bytes_eq word (codes "data") then data_control ws
    else if bytes_eq word (codes "ramp") then ramp_control ws
    else if bytes_eq word (codes "insert") then insert_control ws
    else Err Word

-- what the host asks for in the words of a text
unfoldable pub control_in : List Text → Read Control
control_in [] = Err Word
control_in (word ∷ ws) = control_named word ws
