-- The pace of bus time that a text spells (own choice): a number of 0.1 to 1000, with up to three digits behind a
-- point.
use Rattle.std.specs.Prelude.{ℕ, ◌+◌, ◌*◌, ◌==◌, ◌&&◌, nat_le, Bool, if◌then◌else◌, length, take, drop, position}
use Rattle.std.specs.Prelude.{Option, Some, None, option_map}
use Rattle.text_lines.specs.Words.{Text}
use Rattle.numerals.specs.Numerals.{spelled}

abbrev pub is_point : ℕ → Bool
is_point byte = byte == 46

-- the thousandths that a number stands for behind a point, where it has so many digits
abbrev pub scaled : ℕ → ℕ → ℕ
scaled digits n = if digits == 1 then n * 100 else if digits == 2 then n * 10 else n

-- the thousandths of the digits behind a point, of which there are one to three
abbrev pub thousandths : Text → Option ℕ
thousandths digits = option_map (scaled (length digits)) (spelled 10 1 3 digits)

-- a whole number in thousandths, which has one to four digits
abbrev pub whole : Text → Option ℕ
whole text = option_map (λ n. n * 1000) (spelled 10 1 4 text)

abbrev pub both : Option ℕ → Option ℕ → Option ℕ
both None b = None
both (Some a) None = None
both (Some a) (Some b) = Some (a + b)

-- what stands in front of the first point, and behind it
abbrev pub parted : Text → Option ℕ → Option ℕ
parted text None = whole text
parted text (Some place) = both (whole (take place text)) (thousandths (drop (place + 1) text))

abbrev pub in_range : Option ℕ → Option ℕ
in_range None = None
in_range (Some n) = if nat_le 100 n && nat_le n 1000000 then Some n else None

-- the pace in thousandths, if it is one
unfoldable pub pace_in : Text → Option ℕ
pace_in text = in_range (parted text (position is_point text))
