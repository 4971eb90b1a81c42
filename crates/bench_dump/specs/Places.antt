-- Text at a place of a buffer.
use Rattle.std.specs.Prelude.{◌≡◌, ℕ, ◌+◌, ◌/◌, ◌%◌, List, [], ◌∷◌, ◌++◌, length, take}

-- bytes were placed in a buffer, up to an end; in front of them it is as before
pub record IsPutInBuffer (before after : List ℕ) (at : ℕ) (bytes : List ℕ) (end : ℕ) : Type 0 where
  pub text : take end after ≡ take at before ++ bytes
  pub moved : end ≡ at + length bytes
  pub size : length after ≡ length before

-- the last two, four and eight decimal digits of a number below 100, 10,000 and 100,000,000
abbrev pub two_digits : ℕ → List ℕ
two_digits number = (48 + number / 10) ∷ (48 + number % 10) ∷ []

abbrev pub four_digits : ℕ → List ℕ
four_digits number = two_digits (number / 100) ++ two_digits (number % 100)

abbrev pub eight_digits : ℕ → List ℕ
eight_digits number = four_digits (number / 10000) ++ four_digits (number % 10000)
