-- Lists whose elements belong together in pairs.
use Rattle.std.proofs.Common.{◌≡◌, ℕ, zero, suc, ◌<◌, List, [], ◌∷◌, length, refl, ap, arith}
use Rattle.std.specs.Prelude.{Some, slice_get}
use Rattle.std.specs.List.{AllByRecursion}
use Rattle.bench_run.specs.Runs.{ArePairs}

module _ {X Y : Type 0} where
  pub same_length : (P : X → Y → Type 0) (xs : List X) (ys : List Y) → ArePairs P xs ys → length xs ≡ length ys
  same_length P [] [] are = refl
  same_length P (x ∷ xs) (y ∷ ys) are = ap suc (same_length P xs ys are.1)
  same_length P [] (y ∷ ys) are = absurd are
  same_length P (x ∷ xs) [] are = absurd are

  -- what follows for each pair follows for the lists
  pub pairs_with : (P Q : X → Y → Type 0) (xs : List X) (ys : List Y) → ArePairs P xs ys
      → ((k : ℕ) (x : X) (y : Y) → slice_get xs k ≡ Some x → slice_get ys k ≡ Some y → P x y → Q x y) → ArePairs Q xs ys
  pairs_with P Q [] [] are step = tt
  pairs_with P Q (x ∷ xs) (y ∷ ys) are step =
      (step 0 x y refl refl are.0, pairs_with P Q xs ys are.1 (λ k a b at at' p. step (suc k) a b at at' p))
  pairs_with P Q [] (y ∷ ys) are step = absurd are
  pairs_with P Q (x ∷ xs) [] are step = absurd are

  -- the same for the second list alone
  pub seconds_with : (P : X → Y → Type 0) (Q : Y → Type 0) (xs : List X) (ys : List Y) → ArePairs P xs ys
      → ((k : ℕ) (x : X) (y : Y) → slice_get xs k ≡ Some x → slice_get ys k ≡ Some y → P x y → Q y) → AllByRecursion Q ys
  seconds_with P Q [] [] are step = tt
  seconds_with P Q (x ∷ xs) (y ∷ ys) are step =
      (step 0 x y refl refl are.0, seconds_with P Q xs ys are.1 (λ k a b at at' p. step (suc k) a b at at' p))
  seconds_with P Q [] (y ∷ ys) are step = absurd are
  seconds_with P Q (x ∷ xs) [] are step = absurd are

  -- the pair at a place
  pub pair_at : (P : X → Y → Type 0) (xs : List X) (ys : List Y) (k : ℕ) → ArePairs P xs ys → k < length xs
      → (x : X) × (y : Y) × (slice_get xs k ≡ Some x) × (slice_get ys k ≡ Some y) × P x y
  pair_at P [] [] k are low = absurd (omega (arith, low))
  pair_at P (x ∷ xs) (y ∷ ys) zero are low = (x, y, refl, refl, are.0)
  pair_at P (x ∷ xs) (y ∷ ys) (suc k) are low = pair_at P xs ys k are.1 (omega (arith, low))
  pair_at P [] (y ∷ ys) k are low = absurd are
  pair_at P (x ∷ xs) [] k are low = absurd are
