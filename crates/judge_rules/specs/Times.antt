-- A time with its unit as it is written, as `1.2s`, `350ms` or `12us` (own choice). Times are told in ticks of 0.1 µs
-- (IRIG 106-17 Chapter 11), of which a second has 10 ^ 7, a millisecond 10 ^ 4 and a microsecond 10, and no digit
-- stands for less than one of them.
use Rattle.std.specs.Prelude.{ℕ, ◌+◌, ◌-◌, ◌*◌, ◌^◌, ◌==◌, Bool, if◌then◌else◌, [], ◌∷◌, length, take, drop}
use Rattle.std.specs.Prelude.{Option, Some, None, option_map, codes}
use Rattle.std.specs.List.{position_or_len}
use Rattle.std.specs.Str.{bytes_eq}
use Rattle.numerals.specs.Numerals.{spelled}
use Rattle.text_lines.specs.Words.{Text}

abbrev pub is_point : ℕ → Bool
is_point b = b == 46

-- what stands before the point, and what from the point on
abbrev pub whole_part : Text → Text
whole_part text = take (position_or_len is_point text) text

abbrev pub decimal_part : Text → Text
decimal_part text = drop (position_or_len is_point text) text

-- the ticks of the decimal places behind a point, of a unit of 10 ^ places ticks
abbrev pub decimal_ticks : ℕ → Text → Option ℕ
decimal_ticks places [] = Some 0
decimal_ticks places (point ∷ digits) =
    option_map (λ (n : ℕ). n * 10 ^ (places - length digits)) (spelled 10 1 places digits)

abbrev pub sum_of : Option ℕ → Option ℕ → Option ℕ
sum_of None b = None
sum_of (Some a) None = None
sum_of (Some a) (Some b) = Some (a + b)

-- one to ten digits, and perhaps a point with decimal places
abbrev pub ticks_of : ℕ → Text → Option ℕ
ticks_of places text =
    sum_of (option_map (λ (n : ℕ). n * 10 ^ places) (spelled 10 1 10 (whole_part text)))
    (decimal_ticks places (decimal_part text))

abbrev pub ends_in : Text → Text → Bool
ends_in unit text = bytes_eq (drop (length text - length unit) text) unit

-- a text without its last bytes
abbrev pub without : ℕ → Text → Text
without count text = take (length text - count) text

unfoldable pub ticks_spelled : Text → Option ℕ
ticks_spelled text =
    if ends_in (codes "us") text then ticks_of 1 (without 2 text)
    else if ends_in (codes "ms") text then ticks_of 4 (without 2 text)
    else if ends_in (codes "s") text then ticks_of 7 (without 1 text)
    else None
