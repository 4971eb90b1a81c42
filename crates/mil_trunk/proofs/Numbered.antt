-- Facts about each of the views, by their numbers.
use Rattle.std.proofs.Common.{◌≡◌, ◌≢◌, ◌⊎◌, inl, inr, ⊎_elim, ℕ, zero, suc, List, [], ◌∷◌, ◌++◌, length, set, refl, sym, ap, subst}
use mathlib.Core.Option.{some, some-injective, some-ne-none}
use lib.ListN.{get_elem?}
use Rattle.crossbeam_queue.proofs.Lists.{at_set}

module _ {V : Type 0} where
  at_snoc : (l : List V) (a b : V) (j : ℕ) → get_elem? (l ++ a ∷ []) j ≡ some b → (get_elem? l j ≡ some b) ⊎ ((j ≡ length l) × (a ≡ b))
  at_snoc [] a b zero e = inr (refl, some-injective a b e)
  at_snoc [] a b (suc j) e = absurd (some-ne-none b (sym e))
  at_snoc (x ∷ xs) a b zero e = inl e
  at_snoc (x ∷ xs) a b (suc j) e = ⊎_elim (λ h. inl h) (λ h. inr (ap suc h.0, h.1)) (at_snoc xs a b j e)

  -- each view of the list has the fact, with its number
  abbrev pub AllNumbered : (ℕ → V → Type 0) → List V → Type 0
  AllNumbered F views = (number : ℕ) (v : V) → get_elem? views number ≡ some v → F number v

  -- after a change of one view
  pub all_set : (F : ℕ → V → Type 0) (views : List V) (number : ℕ) (w : V) → F number w → ((j : ℕ) (u : V) → j ≢ number → get_elem? views j ≡ some u → F j u) → AllNumbered F (set views number w)
  all_set F views number w mine others j u e = ⊎_elim (λ (x : (j ≡ number) × (w ≡ u)). subst (λ (y : ℕ × V). F y.0 y.1) (λ i. (sym x.0 i, x.1 i)) mine)
      (λ (x : (j ≢ number) × (get_elem? views j ≡ some u)). others j u x.0 x.1) (at_set views number j w u e)

  -- with one view more
  pub all_snoc : (F : ℕ → V → Type 0) (views : List V) (w : V) → AllNumbered F views → F (length views) w → AllNumbered F (views ++ w ∷ [])
  all_snoc F views w old new j u e = ⊎_elim (λ (x : get_elem? views j ≡ some u). old j u x)
      (λ (x : (j ≡ length views) × (w ≡ u)). subst (λ (y : ℕ × V). F y.0 y.1) (λ i. (sym x.0 i, x.1 i)) new) (at_snoc views w u j e)

  pub only_one : (a : V) (j : ℕ) (u : V) → get_elem? (a ∷ []) j ≡ some u → (j ≡ 0) × (a ≡ u)
  only_one a zero u e = (refl, some-injective a u e)
  only_one a (suc j) u e = absurd (some-ne-none u (sym e))
