-- The first marks of a bar.
use Rattle.std.proofs.Common.{◌≡◌, ◌≤◌, ℕ, zero, suc, List, ◌∷◌, take, refl, ap, arith}
use Rattle.std.specs.Prelude.{replicate}

abbrev marks : ℕ → List ℕ
marks n = replicate n 35

abbrev pub full_bar : List ℕ
full_bar = marks 50

pub first_marks : (m n : ℕ) → n ≤ m → take n (marks m) ≡ marks n
first_marks m zero le = refl
first_marks zero (suc n) le = absurd (omega (arith, le))
first_marks (suc m) (suc n) le = ap (λ (xs : List ℕ). 35 ∷ xs) (first_marks m n (omega (arith, le)))
