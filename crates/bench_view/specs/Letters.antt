-- Numbers by 64 letters (own choice), so that a page is small: the highest place first, without leading zeros.
use Rattle.std.specs.Prelude.{ℕ, zero, suc, ◌+◌, ◌/◌, ◌%◌, ◌==◌, nat_lt, if◌then◌else◌, List, [], ◌∷◌, ◌++◌}

-- the digits, A to Z, a to z, _ and . have the values from 0 on
abbrev pub letter : ℕ → ℕ
letter value =
    if nat_lt value 10 then 48 + value
    else if nat_lt value 36 then 55 + value
    else if nat_lt value 62 then 61 + value
    else if value == 62 then 95
    else 46

-- a number in at most so many letters
unfoldable pub letters : ℕ → ℕ → List ℕ
letters zero value = []
letters (suc most) value = (if nat_lt value 64 then [] else letters most (value / 64)) ++ letter (value % 64) ∷ []

-- one of 64 bits
abbrev pub number_text : ℕ → List ℕ
number_text value = letters 11 value

-- a word of 16 bits, always three letters
abbrev pub word_text : ℕ → List ℕ
word_text word = letter (word / 4096) ∷ letter (word / 64 % 64) ∷ letter (word % 64) ∷ []
