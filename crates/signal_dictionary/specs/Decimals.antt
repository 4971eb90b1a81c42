-- Decimal numbers in the words of a text (own choice): perhaps `-`, digits, and perhaps a point and more digits.
use Rattle.std.specs.Prelude.{ℕ, ◌+◌, ◌*◌, ◌^◌, ◌-◌, ◌==◌, nat_le, Bool, true, false, ◌&&◌, if◌then◌else◌}
use Rattle.std.specs.Prelude.{List, [], ◌∷◌, length, drop, Ok, Err, Option, Some, None, codes}
use Rattle.std.specs.Str.Parse.{digits_value}
use Rattle.numerals.specs.Numerals.{are_digits}
use Rattle.text_lines.specs.Words.{Text, begins_with}
use Rattle.judge_rules.specs.declared.fault.RuleFault.TheVariants.{Word, Number}
use Rattle.judge_rules.specs.Faults.{Read}
use Rattle.judge_rules.specs.Times.{decimal_part, whole_part}
use Rattle.signal_dictionary.specs.declared.decimals.Decimal.{Decimal}

-- what stands behind the point with which a text begins, if there is one: at least a digit
abbrev pub behind_point : Text → Option Text
behind_point [] = Some []
behind_point (point ∷ []) = None
behind_point (point ∷ b ∷ bs) = Some (b ∷ bs)

-- one digit or more in front of the point, and 18 in all at most
abbrev pub are_those_of_decimal : Text → Text → Bool
are_those_of_decimal whole behind =
    nat_le 1 (length whole) && nat_le (length whole) 18 && nat_le (length behind) (18 - length whole)
    && are_digits 10 whole && are_digits 10 behind

-- the digits in front of the point and behind it as one number
abbrev pub joined : Text → Text → ℕ
joined whole behind = digits_value 10 whole * 10 ^ length behind + digits_value 10 behind

abbrev pub decimal_by : Bool → Text → Option Text → Read Decimal
decimal_by negative whole None = Err Number
decimal_by negative whole (Some behind) =
    if are_those_of_decimal whole behind
    then Ok (record { negative = negative; digits = joined whole behind; places = length behind }) else Err Number

abbrev pub unsigned : Bool → Text → Read Decimal
unsigned negative text = decimal_by negative (whole_part text) (behind_point (decimal_part text))

unfoldable pub decimal_of : Text → Read Decimal
decimal_of [] = Err Number
decimal_of (b ∷ bs) = if b == 45 then unsigned true bs else unsigned false (b ∷ bs)

abbrev pub decimal_in : List Text → Read Decimal
decimal_in [] = Err Word
decimal_in (word ∷ rest) = decimal_of word

-- the decimal behind a word, where that comes next; else the one that counts where none is told
abbrev pub told_in : Text → Decimal → List Text → Read Decimal
told_in word untold rest = if begins_with word rest then decimal_in (drop 1 rest) else Ok untold

abbrev pub behind_told : Text → List Text → List Text
behind_told word rest = if begins_with word rest then drop 2 rest else rest

-- the scale, 1 where none is told, and the offset, 0 where none is
abbrev pub one : Decimal
one = record { negative = false; digits = 1; places = 0 }

abbrev pub nought : Decimal
nought = record { negative = false; digits = 0; places = 0 }

abbrev pub scale_in : List Text → Read Decimal
scale_in rest = told_in (codes "scale") one rest

abbrev pub behind_scale : List Text → List Text
behind_scale rest = behind_told (codes "scale") rest

abbrev pub offset_in : List Text → Read Decimal
offset_in rest = told_in (codes "offset") nought rest

abbrev pub behind_offset : List Text → List Text
behind_offset rest = behind_told (codes "offset") rest
