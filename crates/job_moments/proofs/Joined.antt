-- Lists of which each item has a list, and these joined.
use Rattle.std.proofs.Common.{◌≡◌, ℕ, suc, ◌+◌, ◌<◌, ◌≤◌, List, [], ◌∷◌, ◌++◌, length, get_or, take, drop, All, refl, sym, ap, subst, ◌∙◌, arith, length-append}
use Rattle.std.specs.Prelude.{Result, Ok, Err, OnErr}
use Rattle.std.specs.List.{flat_map}
use Rattle.std.proofs.lemmas.List.{get_or_append_left, get_or-append-add, append-nil, take_more, take-append-drop}
use Rattle.std.proofs.lemmas.List.Concat.{flat_map-append}
use Rattle.std.proofs.lemmas.List.Elements.{All-append, All-cons, All-head, All-tail, All-nil}

-- ---- what is true of each item of joined lists

pub all_front : {X : Type 0} (P : X → Type 0) (xs ys : List X) → All P (xs ++ ys) → All P xs
all_front P xs ys all k d within =
    subst P (get_or_append_left xs ys d k within) (all k d (omega (arith, within, length-append xs ys)))

pub all_rest : {X : Type 0} (P : X → Type 0) (xs ys : List X) → All P (xs ++ ys) → All P ys
all_rest P xs ys all k d within =
    subst P (get_or-append-add xs ys k d) (all (length xs + k) d (omega (arith, within, length-append xs ys)))

module _ {X Y : Type 0} (f : X → List Y) where
  -- of one item more
  pub joined_more : (xs : List X) (i : ℕ) (d : X) → i < length xs
      → flat_map f (take (i + 1) xs) ≡ flat_map f (take i xs) ++ f (get_or xs i d)
  joined_more xs i d within =
      ap (flat_map f) (take_more xs i d within)
      ∙ flat_map-append f (take i xs) (get_or xs i d ∷ [])
      ∙ ap (λ (ys : List Y). flat_map f (take i xs) ++ ys) (append-nil (f (get_or xs i d)))

  -- how many there are with one item more: no more than in all
  pub joined_long : (xs : List X) (i : ℕ) (d : X) → i < length xs
      → length (flat_map f (take (i + 1) xs)) ≡ length (flat_map f (take i xs)) + length (f (get_or xs i d))
  joined_long xs i d within = ap length (joined_more xs i d within) ∙ length-append (flat_map f (take i xs)) (f (get_or xs i d))

  pub joined_few : (xs : List X) (i : ℕ) → length (flat_map f (take i xs)) ≤ length (flat_map f xs)
  joined_few xs i =
      let all = ap length (ap (flat_map f) (sym (take-append-drop i xs)) ∙ flat_map-append f (take i xs) (drop i xs)) in
      omega (arith, all, length-append (flat_map f (take i xs)) (flat_map f (drop i xs)))

  pub same_joined : (old new : List X) → length new ≡ length old
      → ((k : ℕ) (d : X) → k < length old → f (get_or new k d) ≡ f (get_or old k d))
      → flat_map f new ≡ flat_map f old
  same_joined [] [] long each = refl
  same_joined [] (n ∷ ns) long each = absurd (omega (arith, long))
  same_joined (o ∷ os) [] long each = absurd (omega (arith, long))
  same_joined (o ∷ os) (n ∷ ns) long each =
      let first : f n ≡ f o = each 0 o (omega arith) in
      let rest : flat_map f ns ≡ flat_map f os = same_joined os ns (omega (arith, long)) (λ k d lt. each (suc k) d (omega (arith, lt))) in
      ap (λ (ys : List Y). ys ++ flat_map f ns) first ∙ ap (λ (ys : List Y). f o ++ ys) rest

  pub all_joined : (P : Y → Type 0) (xs : List X) → All (λ (x : X). All P (f x)) xs → All P (flat_map f xs)
  all_joined P [] all = All-nil P
  all_joined P (x ∷ xs) all =
      All-append P (f x) (flat_map f xs)
      (All-head (λ (y : X). All P (f y)) x xs all)
      (all_joined P xs (All-tail (λ (y : X). All P (f y)) x xs all))

  pub all_pieces : (P : Y → Type 0) (xs : List X) → All P (flat_map f xs) → All (λ (x : X). All P (f x)) xs
  all_pieces P [] all = All-nil (λ (y : X). All P (f y))
  all_pieces P (x ∷ xs) all =
      All-cons (λ (y : X). All P (f y)) x xs
      (all_front P (f x) (flat_map f xs) all)
      (all_pieces P xs (all_rest P (f x) (flat_map f xs) all))

-- ---- what holds anyway, where a call failed

pub on_err : {V E P : Type 0} (r : Result V E) → P → OnErr r P
on_err (Ok v) p = tt
on_err (Err e) p = p
