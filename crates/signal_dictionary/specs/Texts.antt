-- Names, labels and units in the words of a dictionary (own choice).
use Rattle.std.specs.Prelude.{ℕ, ◌==◌, nat_le, Bool, false, not, ◌&&◌, ◌||◌, if◌then◌else◌, List, [], ◌∷◌, drop, length}
use Rattle.std.specs.Prelude.{Ok, Err, codes}
use Rattle.std.specs.List.{list_all}
use Rattle.std.specs.Str.{bytes_eq}
use Rattle.text_lines.specs.Words.{Text}
use Rattle.judge_rules.specs.declared.fault.RuleFault.TheVariants.{Word}
use Rattle.judge_rules.specs.Faults.{Read, ended}
use Rattle.signal_dictionary.specs.declared.texts.Name.{Name}
use Rattle.signal_dictionary.specs.declared.texts.Label.{Label}
use Rattle.signal_dictionary.specs.declared.texts.Unit as units

abbrev pub is_letter : ℕ → Bool
is_letter b = (nat_le 65 b && nat_le b 90) || (nat_le 97 b && nat_le b 122)

abbrev pub is_digit : ℕ → Bool
is_digit b = nat_le 48 b && nat_le b 57

-- letters, digits, `_` and `.`
abbrev pub is_of_name : ℕ → Bool
is_of_name b = is_letter b || is_digit b || b == 95 || b == 46

-- and `-`
abbrev pub is_of_label : ℕ → Bool
is_of_label b = is_of_name b || b == 45

-- printable characters but space, comma and quote
abbrev pub is_of_unit : ℕ → Bool
is_of_unit b = nat_le 33 b && nat_le b 126 && not (b == 44) && not (b == 34)

abbrev pub starts_with_letter : Text → Bool
starts_with_letter [] = false
starts_with_letter (b ∷ bs) = is_letter b

abbrev pub is_name : Text → Bool
is_name word = starts_with_letter word && nat_le (length word) 32 && list_all is_of_name word

abbrev pub is_label : Text → Bool
is_label word = nat_le 1 (length word) && nat_le (length word) 16 && list_all is_of_label word

abbrev pub is_unit : Text → Bool
is_unit word = nat_le 1 (length word) && nat_le (length word) 16 && list_all is_of_unit word

abbrev pub name_of : Text → Read Name
name_of word = if is_name word then Ok (record { bytes = record { items = word } }) else Err Word

abbrev pub name_in : List Text → Read Name
name_in [] = Err Word
name_in (word ∷ rest) = name_of word

abbrev pub label_of : Text → Read Label
label_of word = if is_label word then Ok (record { bytes = record { items = word } }) else Err Word

abbrev pub unit_of : Text → Read units.Unit
unit_of word = if is_unit word then Ok (record { bytes = record { items = word } }) else Err Word

-- a signal without a unit
abbrev pub no_unit : units.Unit
no_unit = record { bytes = record { items = [] } }

-- the unit that is the first of these words
abbrev pub first_unit : List Text → Read units.Unit
first_unit [] = Err Word
first_unit (word ∷ rest) = unit_of word

-- and the last
abbrev pub last_unit : List Text → Read units.Unit
last_unit rest = ended (first_unit rest) (drop 1 rest)

abbrev pub unit_from : Text → List Text → Read units.Unit
unit_from word rest = if bytes_eq word (codes "unit") then last_unit rest else Err Word

-- perhaps a unit, and no more
abbrev pub unit_in : List Text → Read units.Unit
unit_in [] = Ok no_unit
unit_in (word ∷ rest) = unit_from word rest
