-- Numbers that are the same or not, and a list at a place.
use Rattle.std.proofs.Common.{◌≡◌, ℕ, zero, suc, ◌==◌, true, false, List, [], ◌∷◌, ◌++◌, ◌<◌, length, drop, take, refl, ap, arith}
use Rattle.std.specs.Prelude.{Some, Result, Ok, Err, OnOk, slice_get}
use Rattle.std.proofs.lemmas.Bool.{eq-eqb, ne_eqb}

pub same_number : (n : ℕ) → (n == n) ≡ true
same_number n = eq-eqb n n refl

pub other_number : (n m : ℕ) → (n ≡ m → ⊥) → (n == m) ≡ false
other_number n m other = ne_eqb n m other

pub some_same : {X : Type 0} (x y : X) → Some x ≡ Some y → x ≡ y
some_same x y is = cc

pub drop_there : {X : Type 0} (xs : List X) (i : ℕ) (x : X) → slice_get xs i ≡ Some x → drop i xs ≡ x ∷ drop (suc i) xs
drop_there [] i x is = absurd cc
drop_there (y ∷ ys) zero x is = let same : y ≡ x = cc in ap (λ z. z ∷ ys) same
drop_there (y ∷ ys) (suc i) x is = drop_there ys i x is

pub take_there : {X : Type 0} (xs : List X) (i : ℕ) (x : X) → slice_get xs i ≡ Some x → take (suc i) xs ≡ take i xs ++ x ∷ []
take_there [] i x is = absurd cc
take_there (y ∷ ys) zero x is = let same : y ≡ x = cc in rw same refl
take_there (y ∷ ys) (suc i) x is = rw (take_there ys i x is) refl

pub is_there : {X : Type 0} (xs : List X) (i : ℕ) → i < length xs → (x : X) × (slice_get xs i ≡ Some x)
is_there [] i within = absurd (omega arith)
is_there (y ∷ ys) zero within = (y, refl)
is_there (y ∷ ys) (suc i) within = is_there ys i (omega arith)

-- what holds holds where a result is Ok
pub always : {X E : Type 0} (P : Type 0) (r : Result X E) → P → OnOk r P
always P (Ok x) p = p
always P (Err e) p = tt
