-- The numbers that words spell. A letter of either case is a digit: `a` and `A` are ten (own choice).
use Rattle.std.specs.Prelude.{ℕ, ◌+◌, ◌/◌, ◌%◌, Bool, true, ◌&&◌, nat_lt, nat_le, if◌then◌else◌, List, [], ◌∷◌, length}
use Rattle.std.specs.Prelude.{Option, Some, None}
use Rattle.std.specs.Fmt.{digit_glyph}
use Rattle.std.specs.List.{list_all}
use Rattle.std.specs.Char.{digit_value}
use Rattle.std.specs.Str.Parse.{digits_value}

-- each byte is a digit of the base
abbrev pub are_digits : ℕ → List ℕ → Bool
are_digits base word = list_all (λ b. nat_lt (digit_value b) base) word

-- the number that a word of `least` to `most` digits spells
unfoldable pub spelled : ℕ → ℕ → ℕ → List ℕ → Option ℕ
spelled base least most word =
    if nat_le least (length word) && nat_le (length word) most && are_digits base word
    then Some (digits_value base word) else None

-- a number has one to seven decimal digits (own choice)
abbrev pub number_of : List ℕ → Option ℕ
number_of word = spelled 10 1 7 word

-- a data word has four hexadecimal digits, of either case (own choice)
abbrev pub data_word_of : List ℕ → Option ℕ
data_word_of word = spelled 16 4 4 word

-- the upper-case hexadecimal digit of a value
abbrev pub digit_of : ℕ → ℕ
digit_of value = if nat_lt value 10 then 48 + value else 55 + value

-- a byte as two hexadecimal digits, in upper case
abbrev pub byte_text : ℕ → List ℕ
byte_text byte = digit_glyph true (byte / 16) ∷ digit_glyph true (byte % 16) ∷ []
