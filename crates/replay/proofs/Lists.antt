-- Lists item by item: one more, one written anew, and the last of many.
use Rattle.std.proofs.Common.{◌≡◌, ℕ, zero, suc, ◌<◌, List, [], ◌∷◌, ◌++◌, length, map, Some, refl, sym, ap, ◌∙◌, subst, ⊎_elim, arith}
use Rattle.std.specs.List.{slice_get, slice_set}
use Rattle.std.proofs.lemmas.Bool.{cases_lt}
use Rattle.std.proofs.lemmas.List.{length-append}
use Rattle.std.proofs.lemmas.Option.{slice_get_within}
use Rattle.circular_buffer.proofs.Places.{slice_get-set_same, slice_get-set_other, slice_get-append_left, slice_get-last}

pub one_of : {X : Type 0} (a b : X) → Some a ≡ Some b → a ≡ b
one_of a b e = cc

module _ {X : Type 0} (P : ℕ → X → Type 0) (xs : List X) where
  -- one more item
  pub each_more : (x : X) → ((k : ℕ) (y : X) → slice_get xs k ≡ Some y → P k y) → P (length xs) x → (k : ℕ) (y : X) → slice_get (xs ++ x ∷ []) k ≡ Some y → P k y
  each_more x each last k y at =
      ⊎_elim
      (λ less. each k y (sym (slice_get-append_left xs (x ∷ []) k less) ∙ at))
      (λ le.
      let within : k < length (xs ++ x ∷ []) = slice_get_within (xs ++ x ∷ []) k y at in
      let here : k ≡ length xs = omega (arith, within, le, length-append xs (x ∷ [])) in
      let same : x ≡ y = one_of x y (sym (slice_get-last xs x k here) ∙ at) in
      subst (λ (n : ℕ). P n y) (sym here) (subst (P (length xs)) same last))
      (cases_lt k (length xs))

  -- one item written anew
  pub each_set : (i : ℕ) (x : X) → i < length xs → P i x → ((k : ℕ) (y : X) → (k ≡ i → ⊥) → slice_get xs k ≡ Some y → P k y) → (k : ℕ) (y : X) → slice_get (slice_set xs i x) k ≡ Some y → P k y
  each_set i x less here each k y at =
      ⊎_elim
      (λ low. each k y (λ e. absurd (omega (arith, e, low))) (sym (slice_get-set_other xs i k x (λ e. absurd (omega (arith, e, low)))) ∙ at))
      (λ le.
      ⊎_elim
      (λ over. each k y (λ e. absurd (omega (arith, e, over))) (sym (slice_get-set_other xs i k x (λ e. absurd (omega (arith, e, over)))) ∙ at))
      (λ low.
      let same_place : i ≡ k = omega (arith, le, low) in
      let same : x ≡ y = one_of x y (sym (slice_get-set_same xs i x less) ∙ ap (slice_get (slice_set xs i x)) same_place ∙ at) in
      subst (λ (n : ℕ). P n y) same_place (subst (P i) same here))
      (cases_lt i k))
      (cases_lt k i)

-- the item at a place of a list that was mapped
pub each_mapped : {X Y : Type 0} (f : X → Y) (P : ℕ → Y → Type 0) (xs : List X) → ((k : ℕ) (x : X) → slice_get xs k ≡ Some x → P k (f x))
    → (k : ℕ) (y : Y) → slice_get (map f xs) k ≡ Some y → P k y
each_mapped f P [] each k y at = absurd cc
each_mapped {X} f P (x ∷ xs) each zero y at = let same : f x ≡ y = cc in subst (P 0) same (each 0 x refl)
each_mapped f P (x ∷ xs) each (suc k) y at = each_mapped f (λ n. P (suc n)) xs (λ n z there. each (suc n) z there) k y at
