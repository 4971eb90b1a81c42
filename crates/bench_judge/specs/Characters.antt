-- Characters of UTF-8 that an XML text may have (own choice: up to U+EFFF and from U+10000 to U+FFFFF).
use Rattle.std.specs.Prelude.{ℕ, ◌-◌, ◌==◌, ◌&&◌, ◌||◌, nat_le, nat_lt, Bool, false, if◌then◌else◌, List, [], ◌∷◌}
use Rattle.std.specs.Prelude.{length, take}
use Rattle.std.specs.List.{list_all}

abbrev pub is_within : ℕ → ℕ → ℕ → Bool
is_within low high byte = nat_le low byte && nat_le byte high

-- how many bytes a character has that begins with this one, 0 where none does
abbrev pub length_by : ℕ → ℕ
length_by first =
    if (first == 9) || is_within 0x20 0x7F first then 1
    else if is_within 0xC2 0xDF first then 2
    else if is_within 0xE0 0xEE first then 3
    else if is_within 0xF0 0xF3 first then 4
    else 0

-- a second byte that may stand behind a first: the shortest form alone, and no half of a surrogate pair
abbrev pub is_second : ℕ → ℕ → Bool
is_second first second =
    if first == 0xE0 then is_within 0xA0 0xBF second
    else if first == 0xED then is_within 0x80 0x9F second
    else if first == 0xF0 then is_within 0x90 0xBF second
    else is_within 0x80 0xBF second

-- the bytes behind the first begin with those that a character has there
abbrev pub is_continued : ℕ → List ℕ → Bool
is_continued first [] = false
is_continued first (second ∷ others) =
    is_second first second && nat_le (length_by first - 2) (length others)
    && list_all (is_within 0x80 0xBF) (take (length_by first - 2) others)

-- how many bytes the character has with which bytes begin, 0 where it is none
abbrev pub character_len : List ℕ → ℕ
character_len [] = 0
character_len (first ∷ others) =
    if nat_lt (length_by first) 2 || is_continued first others then length_by first else 0
