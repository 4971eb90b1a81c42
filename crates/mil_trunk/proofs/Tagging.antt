-- The items of a list that have a tag, or a tag in a set.
use Rattle.std.proofs.Common.{◌≡◌, ◌≢◌, ◌≤◌, ◌<◌, ⊎_elim, ℕ, ◌+◌, Bool, true, false, not, List, suc, [], ◌∷◌, ◌++◌, length, refl, sym, ap, ◌∙◌, arith, true≢false}
use Rattle.std.specs.Prelude.{◌==◌}
use Rattle.std.specs.List.{filter, All}
use Rattle.std.proofs.lemmas.List.Elements.{filter-append}
use Rattle.std.proofs.lemmas.List.Filters.{length-filter_both}
use Rattle.std.proofs.lemmas.Bool.Decides.{eqb_tells}
use Rattle.std.proofs.lemmas.Bool.{eqb-true, eq-eqb}
use Rattle.mil_trunk.specs.Tags.{has}
use Rattle.mil_trunk.specs.Views.{with_tag, inside, outside}

module _ {X : Type 0} (p q : X → Bool) where
  filter_implied_cons : (x : X) (xs : List X) → (p x ≡ true → q x ≡ true) → filter p (filter q xs) ≡ filter p xs → (a b : Bool) → p x ≡ a → q x ≡ b → filter p (filter q (x ∷ xs)) ≡ filter p (x ∷ xs)
  filter_implied_cons x xs h e true true pa qb = rw (qb, pa) (ap (λ l. x ∷ l) e)
  filter_implied_cons x xs h e true false pa qb = absurd (true≢false (sym (h pa) ∙ qb))
  filter_implied_cons x xs h e false true pa qb = rw (qb, pa) e
  filter_implied_cons x xs h e false false pa qb = rw (qb, pa) e

  -- where p is the stricter test
  filter_implied : ((x : X) → p x ≡ true → q x ≡ true) → (xs : List X) → filter p (filter q xs) ≡ filter p xs
  filter_implied h [] = refl
  filter_implied h (x ∷ xs) = filter_implied_cons x xs (h x) (filter_implied h xs) (p x) (q x) refl refl

  filter_apart_cons : (x : X) (xs : List X) → (p x ≡ true → q x ≡ false) → filter p (filter q xs) ≡ [] → (a b : Bool) → p x ≡ a → q x ≡ b → filter p (filter q (x ∷ xs)) ≡ []
  filter_apart_cons x xs h e true true pa qb = absurd (true≢false (sym qb ∙ h pa))
  filter_apart_cons x xs h e true false pa qb = rw qb e
  filter_apart_cons x xs h e false true pa qb = rw (qb, pa) e
  filter_apart_cons x xs h e false false pa qb = rw qb e

  -- where nothing passes both
  filter_apart : ((x : X) → p x ≡ true → q x ≡ false) → (xs : List X) → filter p (filter q xs) ≡ []
  filter_apart h [] = refl
  filter_apart h (x ∷ xs) = filter_apart_cons x xs (h x) (filter_apart h xs) (p x) (q x) refl refl

-- the items that pass a test are no more than all
pub length-filter_le : {X : Type 0} (p : X → Bool) (xs : List X) → length (filter p xs) ≤ length xs
length-filter_le p [] = omega arith
length-filter_le p (x ∷ xs) = let h = length-filter_le p xs in step (p x) refl h where
  step : (b : Bool) → p x ≡ b → length (filter p xs) ≤ length xs → length (filter p (x ∷ xs)) ≤ length (x ∷ xs)
  step true e h = rw e (omega arith)
  step false e h = rw e (omega arith)

module _ {T : Type 0} (tag_of : T → ℕ) where
  pub with_tag-append : (t : ℕ) (xs ys : List T) → with_tag tag_of t (xs ++ ys) ≡ with_tag tag_of t xs ++ with_tag tag_of t ys
  with_tag-append t xs ys = filter-append (λ x. tag_of x == t) xs ys

  -- one item, of another tag
  pub with_tag_other : (t : ℕ) (x : T) → tag_of x ≢ t → with_tag tag_of t (x ∷ []) ≡ []
  with_tag_other t x ne = ⊎_elim (λ e. absurd (ne e.1)) (λ e. rw e.0) (eqb_tells (tag_of x) t)

  pub with_tag_one : (t : ℕ) (x : T) → length (with_tag tag_of t (x ∷ [])) ≤ 1
  with_tag_one t x = length-filter_le (λ y. tag_of y == t) (x ∷ [])

  pub with_tag_first : (x : T) (xs : List T) → 0 < length (with_tag tag_of (tag_of x) (x ∷ xs))
  with_tag_first x xs = rw (eq-eqb (tag_of x) (tag_of x) refl) (omega arith)

  pub with_tag-inside : (tags t : ℕ) (xs : List T) → has tags t ≡ true → with_tag tag_of t (inside tag_of tags xs) ≡ with_tag tag_of t xs
  with_tag-inside tags t xs h = filter_implied (λ x. tag_of x == t) (λ x. has tags (tag_of x)) (λ x e. ap (has tags) (eqb-true (tag_of x) t e) ∙ h) xs

  pub with_tag-inside_none : (tags t : ℕ) (xs : List T) → has tags t ≡ false → with_tag tag_of t (inside tag_of tags xs) ≡ []
  with_tag-inside_none tags t xs h = filter_apart (λ x. tag_of x == t) (λ x. has tags (tag_of x)) (λ x e. ap (has tags) (eqb-true (tag_of x) t e) ∙ h) xs

  pub with_tag-outside : (tags t : ℕ) (xs : List T) → has tags t ≡ false → with_tag tag_of t (outside tag_of tags xs) ≡ with_tag tag_of t xs
  with_tag-outside tags t xs h = filter_implied (λ x. tag_of x == t) (λ x. not (has tags (tag_of x))) (λ x e. ap (λ k. not (has tags k)) (eqb-true (tag_of x) t e) ∙ ap not h) xs

  pub with_tag-outside_none : (tags t : ℕ) (xs : List T) → has tags t ≡ true → with_tag tag_of t (outside tag_of tags xs) ≡ []
  with_tag-outside_none tags t xs h = filter_apart (λ x. tag_of x == t) (λ x. not (has tags (tag_of x))) (λ x e. ap (λ k. not (has tags k)) (eqb-true (tag_of x) t e) ∙ ap not h) xs

  -- the items of all tags but one
  abbrev pub without : ℕ → List T → List T
  without k xs = filter (λ x. not (tag_of x == k)) xs

  pub with_tag-without : (k t : ℕ) (xs : List T) → t ≢ k → with_tag tag_of t (without k xs) ≡ with_tag tag_of t xs
  with_tag-without k t xs ne = filter_implied (λ x. tag_of x == t) (λ x. not (tag_of x == k)) (λ x e. ⊎_elim (λ h. absurd (ne (sym (eqb-true (tag_of x) t e) ∙ h.1))) (λ h. ap not h.0) (eqb_tells (tag_of x) k)) xs

  pub with_tag-without_none : (k : ℕ) (xs : List T) → with_tag tag_of k (without k xs) ≡ []
  with_tag-without_none k xs = filter_apart (λ x. tag_of x == k) (λ x. not (tag_of x == k)) (λ x e. ap not e) xs

  pub length-with_tag : (k : ℕ) (xs : List T) → length (with_tag tag_of k xs) + length (without k xs) ≡ length xs
  length-with_tag k xs = length-filter_both (λ x. tag_of x == k) (λ x. not (tag_of x == k)) (λ _. refl) xs

  all_tail : (P : T → Type 0) (x : T) (xs : List T) → All P (x ∷ xs) → All P xs
  all_tail P x xs a = λ k d lt. a (suc k) d (omega (arith, lt))

  -- a list of items of one tag has them all, and none of another tag
  pub with_tag-all : (k : ℕ) (xs : List T) → All (λ x. tag_of x ≡ k) xs → with_tag tag_of k xs ≡ xs
  with_tag-all k [] a = refl
  with_tag-all k (x ∷ xs) a = rw (eq-eqb (tag_of x) k (a 0 x (omega arith))) (ap (λ l. x ∷ l) (with_tag-all k xs (all_tail (λ y. tag_of y ≡ k) x xs a)))

  pub with_tag-all_other : (k t : ℕ) (xs : List T) → k ≢ t → All (λ x. tag_of x ≡ k) xs → with_tag tag_of t xs ≡ []
  with_tag-all_other k t [] ne a = refl
  with_tag-all_other k t (x ∷ xs) ne a =
      let rest = with_tag-all_other k t xs ne (all_tail (λ y. tag_of y ≡ k) x xs a) in
      ⊎_elim (λ e. absurd (ne (sym (a 0 x (omega arith)) ∙ e.1))) (λ e. rw e.0 rest) (eqb_tells (tag_of x) t)
