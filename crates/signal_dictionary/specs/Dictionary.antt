-- The signals that a text spells, by their parts, or its first fault (own choice).
use Rattle.std.specs.Prelude.{◌≡◌, ℕ, ◌+◌, ◌<◌, ◌==◌, Bool, ◌||◌, if◌then◌else◌, List, [], ◌∷◌, ◌++◌, length}
use Rattle.std.specs.Prelude.{Result, Ok, Err, Option, Some, None, slice_get, ◌⊎◌}
use Rattle.std.specs.List.{list_any}
use Rattle.std.specs.Str.{bytes_eq}
use Rattle.text_lines.specs.Words.{Text}
use Rattle.text_lines.specs.Lines.{text_lines}
use Rattle.judge_rules.specs.declared.fault.RuleFault.{RuleFault}
use Rattle.judge_rules.specs.declared.fault.RuleFault.TheVariants.{Range, Memory}
use Rattle.judge_rules.specs.Faults.{Read}
use Rattle.signal_dictionary.specs.declared.fault.DictionaryError.{DictionaryError}
use Rattle.signal_dictionary.specs.declared.signals.Signal.{Signal}
use Rattle.signal_dictionary.specs.declared.texts.Name.{Name}
use Rattle.signal_dictionary.specs.Lines.{said}
use Rattle.signal_dictionary.specs.Parts.{Parts, parts_of}

abbrev pub AllSignals : Type 0
AllSignals = Result (List Parts) DictionaryError

abbrev pub fault_at : ℕ → RuleFault → AllSignals
fault_at line fault = Err (record { fault = fault; line = line })

-- a signal of this name, and whether one is among others
abbrev pub has_name : Name → Parts → Bool
has_name name signal = bytes_eq signal.name.bytes.items name.bytes.items

abbrev pub is_signal_of : Name → Signal → Bool
is_signal_of name s = has_name name (parts_of s)

abbrev pub is_among : Name → List Parts → Bool
is_among name signals = list_any (has_name name) signals

-- there are as many as may be, or one is of its name
abbrev pub has_no_place : Name → List Parts → Bool
has_no_place name signals = (length signals == 10000) || is_among name signals

-- a signal in front of others
abbrev pub in_front : Parts → AllSignals → AllSignals
in_front signal (Ok signals) = Ok (signal ∷ signals)
in_front signal (Err e) = Err e

-- what a line says, which stands behind these signals; what follows it is read as behind the same, or as behind this
-- one too
abbrev pub taken : List Parts → ℕ → Option (Read Parts) → AllSignals → (Parts → AllSignals) → AllSignals
taken before line None same more = same
taken before line (Some (Err fault)) same more = fault_at line fault
taken before line (Some (Ok signal)) same more =
    if has_no_place signal.name before then fault_at line Range
    else in_front signal (more signal)

-- the signals of lines, the first of this number, behind these signals
abbrev pub dictionary_from : List Parts → ℕ → List Text → AllSignals
dictionary_from before line [] = Ok []
dictionary_from before line (text ∷ rest) =
    taken before line (said line text) (dictionary_from before (line + 1) rest)
    (λ signal. dictionary_from (before ++ signal ∷ []) (line + 1) rest)

unfoldable pub dictionary_in : Text → AllSignals
dictionary_in text = dictionary_from [] 1 (text_lines text)

-- one of these signals stands in this line
abbrev pub HasLine : ℕ → List Parts → Type 0
HasLine line signals =
    (place : ℕ) × ((signal : Parts) × ((slice_get signals place ≡ Some signal) × (signal.line ≡ line)))

-- an answer that gives no signals: the first fault of the text; or want of memory, in front of that fault, or where
-- there is none at the line of a signal
abbrev pub IsDictionaryError : DictionaryError → AllSignals → Type 0
IsDictionaryError e (Ok signals) = (e.fault ≡ Memory) × HasLine e.line signals
IsDictionaryError e (Err first) = (e ≡ first) ⊎ ((e.fault ≡ Memory) × (e.line < first.line))
