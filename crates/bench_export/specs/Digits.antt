-- Binary digits.
use Rattle.std.specs.Prelude.{ℕ, ◌+◌, ◌/◌, ◌%◌, List, [], ◌∷◌}

-- the four of a number below 16
abbrev pub four : ℕ → List ℕ
four value = (48 + value / 8 % 2) ∷ (48 + value / 4 % 2) ∷ (48 + value / 2 % 2) ∷ (48 + value % 2) ∷ []
