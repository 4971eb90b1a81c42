-- What a line of a report says (own choice): its words, separated by spaces alone.
use Rattle.std.specs.Prelude.{ℕ, Bool, ◌≤◌, ◌&&◌, nat_le, if◌then◌else◌, List, [], ◌∷◌, Option, Some, None, Ok, Err}
use Rattle.std.specs.Prelude.{Result}
use Rattle.std.specs.Prelude.{codes, option_map}
use Rattle.std.specs.Str.{bytes_eq}
use Rattle.numerals.specs.Numerals.{spelled}
use Rattle.text_lines.specs.Words.{Text, words}
use Rattle.mil_word.specs.Fields.{highest_address}
use Rattle.mil_host.specs.Reading.{in_words}
use Rattle.mil_host.specs.declared.actions.Action.{Action}
use Rattle.mil_host.specs.declared.reading.BadAction.{BadAction}
use Rattle.controller_host.specs.declared.controls.Control.{Control}
use Rattle.controller_text.specs.Reading.{control_in}
use Rattle.bc_machine.specs.declared.placed.HostAction.TheVariants.{Terminal, Controller}
use Rattle.bench_report.specs.Reports.{IsPlaced}
use Rattle.bench_report.specs.declared.lines.ReportLine.{ReportLine}
use Rattle.bench_report.specs.declared.lines.ReportLine.TheVariants as line

-- a number from low to high
abbrev pub within : ℕ → ℕ → Option ℕ → Option ℕ
within low high None = None
within low high (Some n) = if nat_le low n && nat_le n high then Some n else None

-- the number that a word of one to so many decimal digits spells, from low to high
abbrev pub bounded_number : ℕ → ℕ → ℕ → Text → Option ℕ
bounded_number most low high word = within low high (spelled 10 1 most word)

-- one number, and no more
abbrev pub only_number : ℕ → ℕ → ℕ → List Text → Option ℕ
only_number most low high [] = None
only_number most low high (word ∷ []) = bounded_number most low high word
only_number most low high (word ∷ more ∷ rest) = None

-- an action at a message and a terminal
abbrev pub placed_line_of : Option ℕ → Option ℕ → Result Action BadAction → Option ReportLine
placed_line_of (Some number) (Some address) (Ok action) = Some
    (line.Placed (record { number = number; action = Terminal address action }))
placed_line_of (Some number) (Some address) (Err bad) = None
placed_line_of (Some number) None action = None
placed_line_of None address action = None

-- what the host of the controller asks for at a message
abbrev pub asked_line_of : Option ℕ → Result Control BadAction → Option ReportLine
asked_line_of (Some number) (Ok asked) = Some (line.Placed (record { number = number; action = Controller asked }))
asked_line_of (Some number) (Err bad) = None
asked_line_of None asked = None

-- the word that names the controller where the address of a terminal may stand
abbrev pub is_controller : Text → Bool
is_controller word = bytes_eq word (codes "bc")

-- the number of a message, the address of a terminal or `bc`, and the text of an action
abbrev pub placed_in : List Text → Option ReportLine
placed_in [] = None
placed_in (number ∷ []) = None
placed_in (number ∷ host ∷ action) =
    if is_controller host then asked_line_of (bounded_number 7 1 1000000 number) (control_in action)
    else placed_line_of (bounded_number 7 1 1000000 number) (bounded_number 7 0 highest_address host) (in_words action)

abbrev pub line_in : List Text → Option ReportLine
line_in [] = None
line_in (word ∷ rest) =
    if bytes_eq word (codes "channel") then option_map line.Channel (only_number 7 1 65535 rest)
    else if bytes_eq word (codes "made") then option_map line.Made (only_number 7 0 1000000 rest)
    else if bytes_eq word (codes "refused") then option_map line.Refused (only_number 7 1 1000000 rest)
    else if bytes_eq word (codes "placed") then placed_in rest
    else if bytes_eq word (codes "packets") then option_map line.Packets (only_number 10 0 9999999999 rest)
    else None

-- what a line says; nothing where it may not stand in a report
unfoldable pub said : Text → Option ReportLine
said text = line_in (words text)

-- the ranges of what a line says
abbrev pub IsLine : ReportLine → Type 0
IsLine (line.Channel n) = (1 ≤ n) × (n ≤ 65535)
IsLine (line.Made n) = n ≤ 1000000
IsLine (line.Refused n) = (1 ≤ n) × (n ≤ 1000000)
IsLine (line.Placed p) = IsPlaced p
IsLine (line.Packets n) = n ≤ 9999999999
