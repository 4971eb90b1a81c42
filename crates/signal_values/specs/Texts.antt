-- Values as texts (own choice): decimal numbers with no zero at the end behind the point, and names.
use Rattle.std.specs.Prelude.{ℕ, zero, suc, ◌+◌, ◌/◌, ◌%◌, ◌==◌, Bool, if◌then◌else◌}
use Rattle.std.specs.Prelude.{List, [], ◌∷◌, ◌++◌, decimal, ℤ, pos, nat_abs, int_lt}
use Rattle.signal_dictionary.specs.declared.signals.Kind.{Kind}
use Rattle.signal_dictionary.specs.declared.signals.Kind.TheVariants.{Unsigned, Signed, Decimals, Names}
use Rattle.signal_dictionary.specs.declared.signals.Naming.{Naming}
use Rattle.signal_dictionary.specs.declared.signals.Signal.{Signal}
use Rattle.signal_values.specs.Amounts.{unit}
use Rattle.signal_values.specs.Readings.{Value, nothing, number, named}

-- so many decimal digits of a number
unfoldable pub digits_of : ℕ → ℕ → List ℕ
digits_of zero value = []
digits_of (suc count) value = digits_of count (value / 10) ++ (48 + value % 10) ∷ []

-- the same, but for the zeros at the end
unfoldable pub fraction : ℕ → ℕ → List ℕ
fraction zero value = []
fraction (suc count) value =
    if value % 10 == 0 then fraction count (value / 10) else digits_of (suc count) value

-- what stands behind the whole number, in units of 10^-17
abbrev pub part_text : ℕ → List ℕ
part_text part = if part == 0 then [] else 46 ∷ fraction 17 part

abbrev pub sign_text : Bool → List ℕ
sign_text below = if below then 45 ∷ [] else []

-- a number of units of 10^-17
abbrev pub number_text : ℤ → List ℕ
number_text z =
    sign_text (int_lt z (pos 0)) ++ decimal (nat_abs z / unit) ++ part_text (nat_abs z % unit)

-- what a number is called, the number itself where it has no name
abbrev pub name_text : List Naming → ℕ → List ℕ
name_text [] n = decimal n
name_text (naming ∷ rest) n = if naming.number == n then naming.label.bytes.items else name_text rest n

abbrev pub named_text : Kind → ℕ → List ℕ
named_text (Unsigned s) n = decimal n
named_text (Signed s) n = decimal n
named_text (Decimals s) n = decimal n
named_text (Names found) n = name_text found.items n

abbrev pub value_text : Kind → Value → List ℕ
value_text kind nothing = []
value_text kind (number z) = number_text z
value_text kind (named n) = named_text kind n

-- a unit behind a space, nothing where there is none
abbrev pub unit_text : List ℕ → List ℕ
unit_text [] = []
unit_text (byte ∷ bytes) = 32 ∷ byte ∷ bytes

-- a signal with its value and its unit, as ` NAME=VALUE UNIT`
abbrev pub told_text : Signal → Value → List ℕ
told_text s v =
    32 ∷ (s.name.bytes.items ++ (61 ∷ (value_text s.kind v ++ unit_text s.unit.bytes.items)))
