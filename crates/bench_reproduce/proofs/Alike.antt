-- All messages of two readings are the same where as many places are as there are.
use Rattle.std.proofs.Common.{◌≡◌, ℕ, zero, suc, ◌+◌, ◌<◌, ◌≤◌, ◌⊎◌, inl, inr, Bool, true, false, cond, not, List, [], ◌∷◌, length, max, Option, None, Some, slice_get, is_some, refl, sym, ap, subst, arith}
use Rattle.std.proofs.lemmas.Bool.{cases_eq}
use Rattle.std.proofs.lemmas.Option.{slice_get_past}
use Rattle.ch11_layout.specs.Stamps.{Recorded}
use Rattle.bench_compare.specs.Differences.{origins_of, part_of}
use Rattle.bench_compare.specs.Laws.{AreSame}
use Rattle.bench_compare.specs.declared.differences.Origins.{Origins}
use Rattle.bench_compare.specs.declared.differences.Part.{Part}
use Rattle.bench_reproduce.specs.Sameness.{AllAreSame, is_same, places, same_up_to}

-- ---- one place

none_of : (p : Option Part) → not (is_some p) ≡ true → p ≡ None
none_of None e = refl
none_of (Some part) e = absurd cc

alike : (o : Origins) (x y : Option Recorded) → is_same o x y ≡ true → AreSame 0 o x y
alike o (Some a) (Some b) e = none_of (part_of 0 o a b) e
alike o (Some a) None e = absurd cc
alike o None y e = absurd cc

is_alike : (o : Origins) (x y : Option Recorded) → (x ≡ None → y ≡ None → ⊥) → AreSame 0 o x y → is_same o x y ≡ true
is_alike o (Some a) (Some b) some same = ap (λ (p : Option Part). not (is_some p)) same
is_alike o (Some a) None some same = absurd same
is_alike o None (Some b) some same = absurd same
is_alike o None None some same = absurd (some refl refl)

module _ (o : Origins) (xs ys : List Recorded) where
  one : (b : Bool) → cond b 1 0 ≤ 1
  one true = omega arith
  one false = omega arith

  -- no more than there are
  at_most : (n : ℕ) → same_up_to o xs ys n ≤ n
  at_most zero = omega arith
  at_most (suc n) = omega (arith, at_most n, one (is_same o (slice_get xs n) (slice_get ys n)))

  -- where it is as many, each is
  each : (n : ℕ) → same_up_to o xs ys n ≡ n → (k : ℕ) → k < n → is_same o (slice_get xs k) (slice_get ys k) ≡ true
  each zero all k less = absurd (omega (arith, less))
  each (suc n) all k less = by (is_same o (slice_get xs n) (slice_get ys n)) refl all (cases_eq k n) (at_most n) (λ is small. each n is k small)
    where
      by : (b : Bool) → is_same o (slice_get xs n) (slice_get ys n) ≡ b → same_up_to o xs ys n + cond b 1 0 ≡ suc n → (k ≡ n) ⊎ (k ≡ n → ⊥) → same_up_to o xs ys n ≤ n
          → (same_up_to o xs ys n ≡ n → k < n → is_same o (slice_get xs k) (slice_get ys k) ≡ true) → is_same o (slice_get xs k) (slice_get ys k) ≡ true
      by true seen is (inl same) most below = subst (λ (j : ℕ). is_same o (slice_get xs j) (slice_get ys j) ≡ true) (sym same) seen
      by true seen is (inr other) most below = below (omega (arith, is)) (omega (arith, less, other))
      by false seen is c most below = absurd (omega (arith, is, most))

  -- where each is, it is as many
  as_many : (n : ℕ) → ((k : ℕ) → k < n → is_same o (slice_get xs k) (slice_get ys k) ≡ true) → same_up_to o xs ys n ≡ n
  as_many zero all = refl
  as_many (suc n) all =
      omega (arith, as_many n (λ k less. all k (omega (arith, less))), ap {B = ℕ} (λ (b : Bool). cond b 1 0) (all n (omega arith)))

  -- behind both there is nothing
  behind : (k : ℕ) → max (length xs) (length ys) ≤ k → AreSame 0 o (slice_get xs k) (slice_get ys k)
  behind k past =
      let first : slice_get xs k ≡ None = slice_get_past xs k (omega (arith, past)) in
      let second : slice_get ys k ≡ None = slice_get_past ys k (omega (arith, past)) in
      subst (λ (x : Option Recorded). AreSame 0 o x (slice_get ys k)) (sym first) (subst (λ (y : Option Recorded). AreSame 0 o None y) (sym second) tt)

  -- in front of that there is something
  past : (zs : List Recorded) (j : ℕ) → slice_get zs j ≡ None → length zs ≤ j
  past [] j none = omega arith
  past (z ∷ zs) zero none = absurd cc
  past (z ∷ zs) (suc j) none = omega (arith, past zs j none)

  in_front : (k : ℕ) → k < max (length xs) (length ys) → slice_get xs k ≡ None → slice_get ys k ≡ None → ⊥
  in_front k less first second = absurd (omega (arith, less, past xs k first, past ys k second))

pub less_or : (k n : ℕ) → (k < n) ⊎ (n ≤ k)
less_or k zero = inr (omega arith)
less_or zero (suc n) = inl (omega arith)
less_or (suc k) (suc n) = by (less_or k n)
  where
    by : (k < n) ⊎ (n ≤ k) → (suc k < suc n) ⊎ (suc n ≤ suc k)
    by (inl less) = inl (omega (arith, less))
    by (inr at) = inr (omega (arith, at))

-- all are the same exactly where the readings are
pub all_are_same : AllAreSame
all_are_same xs ys = (
  λ all k. by (origins_of xs ys) all k (less_or k (places xs ys)),
  λ same. as_many (origins_of xs ys) xs ys (places xs ys)
      (λ k less. is_alike (origins_of xs ys) (slice_get xs k) (slice_get ys k) (in_front (origins_of xs ys) xs ys k less) (same k)),
)
  where
    by : (o : Origins) → same_up_to o xs ys (places xs ys) ≡ places xs ys → (k : ℕ) → (k < places xs ys) ⊎ (places xs ys ≤ k)
        → AreSame 0 o (slice_get xs k) (slice_get ys k)
    by o all k (inl less) = alike o (slice_get xs k) (slice_get ys k) (each o xs ys (places xs ys) all k less)
    by o all k (inr at) = behind o xs ys k at
