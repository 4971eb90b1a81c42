-- What holds of each element of a list and its place, where the list grows at its end or loses its front.
use Rattle.std.proofs.Common.{◌≡◌, ℕ, zero, suc, ◌<◌, List, [], ◌∷◌, ◌++◌, length, map, refl, sym, ap, ◌∙◌, subst, arith}
use Rattle.std.specs.Prelude.{Some, slice_get}
use Rattle.std.specs.List.{AllByRecursion}
use Rattle.bench_run.specs.Runs.{ArePairs}

module _ {X : Type 0} (P : ℕ → X → Type 0) where
  abbrev pub Row : List X → Type 0
  Row xs = (k : ℕ) (x : X) → slice_get xs k ≡ Some x → P k x

module _ {X : Type 0} where
  pub row_more : (P : ℕ → X → Type 0) (xs : List X) (y : X) → Row P xs → P (length xs) y → Row P (xs ++ y ∷ [])
  row_more P [] y row new zero x at = let is : y ≡ x = cc in subst (P 0) is new
  row_more P [] y row new (suc k) x at = absurd cc
  row_more P (z ∷ xs) y row new zero x at = row 0 x at
  row_more P (z ∷ xs) y row new (suc k) x at = row_more (λ i. P (suc i)) xs y (λ i v e. row (suc i) v e) new k x at

  pub row_push : (P : ℕ → X → Type 0) (n : ℕ) (xs ys : List X) (y : X) → length xs ≡ n → ys ≡ xs ++ y ∷ [] → Row P xs → P n y → Row P ys
  row_push P n xs ys y long is row new = subst (Row P) (sym is) (row_more P xs y row (subst (λ i. P i y) (sym long) new))

  pub row_first : (P : ℕ → X → Type 0) (xs rest : List X) (x : X) → xs ≡ x ∷ rest → Row P xs → P 0 x
  row_first P xs rest x is row = row 0 x (ap (λ (l : List X). slice_get l 0) is)

  pub row_rest : (P : ℕ → X → Type 0) (xs rest : List X) (x : X) → xs ≡ x ∷ rest → Row P xs → Row (λ k y. P (suc k) y) rest
  row_rest P xs rest x is row k y at = row (suc k) y (ap (λ (l : List X). slice_get l (suc k)) is ∙ at)

module _ {X Y : Type 0} where
  -- lists that are as long, place by place
  pub pairs_of : (P : X → Y → Type 0) (xs : List X) (ys : List Y) → length ys ≡ length xs
      → ((k : ℕ) (x : X) (y : Y) → slice_get xs k ≡ Some x → slice_get ys k ≡ Some y → P x y) → ArePairs P xs ys
  pairs_of P [] [] long each = tt
  pairs_of P [] (y ∷ ys) long each = absurd (omega arith)
  pairs_of P (x ∷ xs) [] long each = absurd (omega arith)
  pairs_of P (x ∷ xs) (y ∷ ys) long each = (each 0 x y refl refl, pairs_of P xs ys (omega (arith, long)) (λ k a b at at2. each (suc k) a b at at2))

  pub pair_at : (P : X → Y → Type 0) (xs : List X) (ys : List Y) → ArePairs P xs ys
      → (k : ℕ) (x : X) (y : Y) → slice_get xs k ≡ Some x → slice_get ys k ≡ Some y → P x y
  pair_at P [] [] all k x y at at2 = absurd cc
  pair_at P [] (b ∷ ys) all k x y at at2 = absurd all
  pair_at P (a ∷ xs) [] all k x y at at2 = absurd all
  pair_at P (a ∷ xs) (b ∷ ys) all zero x y at at2 =
      let one : a ≡ x = cc in let two : b ≡ y = cc in subst (λ (z : X × Y). P z.0 z.1) (λ i. (one i, two i)) all.0
  pair_at P (a ∷ xs) (b ∷ ys) all (suc k) x y at at2 = pair_at P xs ys all.1 k x y at at2

  pub pairs_length : (P : X → Y → Type 0) (xs : List X) (ys : List Y) → ArePairs P xs ys → length ys ≡ length xs
  pairs_length P [] [] all = refl
  pairs_length P [] (b ∷ ys) all = absurd all
  pairs_length P (a ∷ xs) [] all = absurd all
  pairs_length P (a ∷ xs) (b ∷ ys) all = ap suc (pairs_length P xs ys all.1)

-- an element for each place
pub some_at : {X : Type 0} (xs : List X) (k : ℕ) → k < length xs → (x : X) × (slice_get xs k ≡ Some x)
some_at [] k lt = absurd (omega arith)
some_at (x ∷ xs) zero lt = (x, refl)
some_at (x ∷ xs) (suc k) lt = some_at xs k (omega arith)

pub place_below : {X : Type 0} (xs : List X) (k : ℕ) (x : X) → slice_get xs k ≡ Some x → k < length xs
place_below [] k x at = absurd cc
place_below (y ∷ xs) zero x at = omega arith
place_below (y ∷ xs) (suc k) x at = let h = place_below xs k x at in omega (arith, h)

pub same_some : {X : Type 0} {x y : X} → Some x ≡ Some y → x ≡ y
same_some e = cc

pub none_at : {X : Type 0} (xs : List X) (k : ℕ) (x : X) → xs ≡ [] → slice_get xs k ≡ Some x → ⊥
none_at [] k x is at = absurd cc
none_at (y ∷ xs) k x is at = absurd cc

-- what is made of an element
pub mapped_at : {X Y : Type 0} (f : X → Y) (xs : List X) (ys : List Y) (k : ℕ) (x : X) → map f xs ≡ ys → slice_get xs k ≡ Some x → slice_get ys k ≡ Some (f x)
mapped_at f [] ys k x are at = absurd cc
mapped_at f (z ∷ xs) [] zero x are at = absurd cc
mapped_at f (z ∷ xs) [] (suc k) x are at = absurd cc
mapped_at f (z ∷ xs) (y ∷ ys) zero x are at =
    let first : f z ≡ y = cc in
    let is : z ≡ x = cc in
    ap (λ v. Some v) (sym first ∙ ap f is)
mapped_at f (z ∷ xs) (y ∷ ys) (suc k) x are at = let rest : map f xs ≡ ys = cc in mapped_at f xs ys k x rest at

-- what holds of each element
pub all_at : {X : Type 0} (P : X → Type 0) (xs : List X) (k : ℕ) (x : X) → AllByRecursion P xs → slice_get xs k ≡ Some x → P x
all_at P [] k x all at = absurd cc
all_at P (y ∷ xs) zero x all at = let is : y ≡ x = cc in subst P is all.0
all_at P (y ∷ xs) (suc k) x all at = all_at P xs k x all.1 at
