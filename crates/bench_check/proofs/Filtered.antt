-- Lists of faults.
use Rattle.std.proofs.Common.{◌≡◌, ℕ, List, [], ◌∷◌, ◌++◌, ap, ◌∙◌, refl}
use Rattle.std.specs.Prelude.{Bool, true, false, ◌&&◌, if◌then◌else◌}
use Rattle.std.specs.List.{filter, list_all}
use Rattle.mil_line.specs.declared.faults.Fault.{Fault}
use Rattle.bench_check.specs.Unmet.{numbered}

first_of : (a b : Bool) → (a && b) ≡ true → a ≡ true
first_of true b h = refl
first_of false b h = h

second_of : (a b : Bool) → (a && b) ≡ true → b ≡ true
second_of true b h = h
second_of false b h = absurd (cc)

-- what holds of all holds of those that are kept
pub all_kept : {X : Type 0} (p q : X → Bool) (xs : List X) → list_all p xs ≡ true → list_all p (filter q xs) ≡ true
all_kept p q [] h = refl
all_kept p q (x ∷ xs) h = at (q x) (first_of (p x) (list_all p xs) h) (all_kept p q xs (second_of (p x) (list_all p xs) h))
  where
    at : (kept : Bool) → p x ≡ true → list_all p (filter q xs) ≡ true → list_all p (if kept then x ∷ filter q xs else filter q xs) ≡ true
    at true is rest = ap (λ b. b && list_all p (filter q xs)) is ∙ rest
    at false is rest = rest

-- one more fault with its number
pub numbered_more : (n : ℕ) (xs : List Fault) (x : Fault) → numbered n (xs ++ x ∷ []) ≡ numbered n xs ++ (n, x) ∷ []
numbered_more n [] x = refl
numbered_more n (y ∷ ys) x = ap (λ zs. (n, y) ∷ zs) (numbered_more n ys x)
