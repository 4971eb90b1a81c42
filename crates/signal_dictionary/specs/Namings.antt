-- The names of the numbers of a signal in the words of a dictionary (own choice): a number, an equals sign and a label,
-- each number once, and 64 of them at most.
use Rattle.std.specs.Prelude.{ℕ, ◌==◌, nat_lt, Bool, not, ◌&&◌, if◌then◌else◌, List, [], ◌∷◌, ◌++◌, take, drop, length}
use Rattle.std.specs.Prelude.{Ok, Err, Option, Some, None}
use Rattle.std.specs.List.{list_any, position_or_len}
use Rattle.numerals.specs.Numerals as numerals
use Rattle.text_lines.specs.Words.{Text}
use Rattle.judge_rules.specs.declared.fault.RuleFault.{RuleFault}
use Rattle.judge_rules.specs.declared.fault.RuleFault.TheVariants.{Word, Range}
use Rattle.judge_rules.specs.Faults.{Read, both, lower, made}
use Rattle.judge_rules.specs.Values.{value_or_fault}
use Rattle.signal_dictionary.specs.declared.signals.Naming.{Naming}
use Rattle.signal_dictionary.specs.Texts.{label_of}

abbrev pub is_equals : ℕ → Bool
is_equals b = b == 61

-- a word with an equals sign
abbrev pub is_naming : Text → Bool
is_naming word = list_any is_equals word

abbrev pub len_before_equals : Text → ℕ
len_before_equals word = position_or_len is_equals word

abbrev pub number_of : Text → Read ℕ
number_of word = value_or_fault (numerals.number_of word)

-- the number in front of the first equals sign, and the label behind it
abbrev pub naming_of : Text → Read Naming
naming_of word =
    made (λ (number, label). record { number = number; label = label })
    (both (number_of (take (len_before_equals word) word)) (label_of (drop 1 (drop (len_before_equals word) word))))

abbrev pub has_number : ℕ → Naming → Bool
has_number number naming = naming.number == number

abbrev pub is_named : ℕ → List Naming → Bool
is_named number found = list_any (has_number number) found

-- what is named behind these
abbrev pub fresh : List Naming → Read Naming → Read Naming
fresh found (Err f) = Err f
fresh found (Ok naming) =
    if nat_lt (length found) 64 && not (is_named naming.number found) then Ok naming else Err Range

-- these and what is named behind them
abbrev pub and_fresh : List Naming → Read Naming → List Naming
and_fresh found (Err f) = found
and_fresh found (Ok naming) = found ++ naming ∷ []

abbrev pub in_front : Read (Naming × List Naming) → Read (List Naming)
in_front read = made (λ (naming, more). naming ∷ more) read

-- what the words up to the first without an equals sign name, behind these
abbrev pub namings_behind : List Naming → List Text → Read (List Naming)
namings_behind found [] = Ok []
namings_behind found (word ∷ rest) =
    if is_naming word
    then in_front
    (both (fresh found (naming_of word)) (namings_behind (and_fresh found (fresh found (naming_of word))) rest))
    else Ok []

abbrev pub at_least_one : Read (List Naming) → Read (List Naming)
at_least_one (Err f) = Err f
at_least_one (Ok []) = Err Word
at_least_one (Ok (naming ∷ more)) = Ok (naming ∷ more)

abbrev pub namings_in : List Text → Read (List Naming)
namings_in rest = at_least_one (namings_behind [] rest)

-- the first word without an equals sign, and those behind it
abbrev pub behind_namings : List Text → List Text
behind_namings [] = []
behind_namings (word ∷ rest) = if is_naming word then behind_namings rest else word ∷ rest

-- the fault of what is read, if it has one, and the one that counts of two
abbrev pub fault_in : Read Naming → Option RuleFault
fault_in (Ok naming) = None
fault_in (Err f) = Some f

abbrev pub worst : Option RuleFault → Option RuleFault → Option RuleFault
worst None other = other
worst (Some f) None = Some f
worst (Some f) (Some g) = Some (lower f g)

-- a word with an equals sign
abbrev pub naming_if : Option Text → Option Text
naming_if None = None
naming_if (Some word) = if is_naming word then Some word else None

-- what words come to that named these: a fault, or these, at least one
abbrev pub outcome : Option RuleFault → List Naming → Read (List Naming)
outcome (Some f) found = Err f
outcome None found = at_least_one (Ok found)
