-- The first place at which a test passes, and lists of what something gives of each item.
use Rattle.std.proofs.Common.{◌≡◌, ◌≢◌, ℕ, ◌+◌, ◌<◌, ◌≤◌, suc, zero, Bool, true, false, List, [], ◌∷◌, length, get_or, set, All, take, drop, map, remove, refl, sym, ap, subst, ◌∙◌, arith, ⊎_elim}
use Rattle.std.specs.Prelude.{Some, None, cond, not}
use Rattle.std.specs.List.{position, position_or_len}
use Rattle.std.proofs.lemmas.Grind.{common_steps}
use Rattle.std.proofs.lemmas.List.{map-append, take-map, length-map, get_or-set_same, get_or-set_other, length-set}
use Rattle.std.proofs.lemmas.Bool.{cases_lt}
use Rattle.std.proofs.lemmas.List.Sums.{position_or_len_is}

pub position_is : {X : Type 0} (p : X → Bool) (xs : List X) (i : ℕ) (d : X) → i < length xs
    → ((k : ℕ) → k < i → p (get_or xs k d) ≡ false) → p (get_or xs i d) ≡ true → position p xs ≡ Some i
position_is p xs i d within before there =
    let at : position_or_len p xs ≡ i = position_or_len_is p xs i d (omega (arith, within)) before (λ _. there) in
    grind (arith, common_steps)

pub position_none : {X : Type 0} (p : X → Bool) (xs : List X) (d : X)
    → ((k : ℕ) → k < length xs → p (get_or xs k d) ≡ false) → position p xs ≡ None
position_none p xs d all =
    let at : position_or_len p xs ≡ length xs = position_or_len_is p xs (length xs) d (omega arith) all (λ lt. absurd (omega (arith, lt))) in
    grind (arith, common_steps)

pub position_or_len-map : {X Y : Type 0} (f : X → Y) (p : Y → Bool) (xs : List X)
    → position_or_len p (map f xs) ≡ position_or_len (λ x. p (f x)) xs
position_or_len-map f p [] = refl
position_or_len-map f p (x ∷ xs) = ap (λ n. cond (not (p (f x))) (1 + n) 0) (position_or_len-map f p xs)

pub position-map : {X Y : Type 0} (f : X → Y) (p : Y → Bool) (xs : List X)
    → position p (map f xs) ≡ position (λ x. p (f x)) xs
position-map f p xs = simp (position_or_len-map f p xs, length-map xs f) refl

pub drop-map : {X Y : Type 0} (f : X → Y) (n : ℕ) (xs : List X) → drop n (map f xs) ≡ map f (drop n xs)
drop-map f zero xs = refl
drop-map f (suc n) [] = refl
drop-map f (suc n) (x ∷ xs) = drop-map f n xs

pub map-remove : {X Y : Type 0} (f : X → Y) (xs : List X) (i : ℕ) → map f (remove xs i) ≡ remove (map f xs) i
map-remove f xs i = map-append f (take i xs) (drop (suc i) xs) ∙ simp (take-map f i xs, drop-map f (suc i) xs) refl

-- a list whose items are changed from the first on, with one more that is
pub set_done : {X : Type 0} (R : X → X → Type 0) (old now : List X) (i : ℕ) (new : X) → length now ≡ length old → i < length old
    → ((k : ℕ) (d : X) → k < i → R (get_or old k d) (get_or now k d)) → ((d : X) → R (get_or old i d) new)
    → (k : ℕ) (d : X) → k < i + 1 → R (get_or old k d) (get_or (set now i new) k d)
set_done R old now i new long there done one k d within =
    ⊎_elim
    (λ below. subst (R (get_or old k d)) (sym (get_or-set_other now i k new d (λ e. omega (arith, e, below)))) (done k d below))
    (λ above.
    let same : i ≡ k = omega (arith, within, above) in
    subst (λ j. R (get_or old j d) (get_or (set now i new) j d)) same
    (subst (R (get_or old i d)) (sym (get_or-set_same now i new d (omega (arith, long, there)))) (one d)))
    (cases_lt k i)

pub set_rest : {X : Type 0} (old now : List X) (i : ℕ) (new : X)
    → ((k : ℕ) (d : X) → i ≤ k → get_or now k d ≡ get_or old k d)
    → (k : ℕ) (d : X) → i + 1 ≤ k → get_or (set now i new) k d ≡ get_or old k d
set_rest old now i new rest k d behind =
    get_or-set_other now i k new d (λ e. omega (arith, e, behind)) ∙ rest k d (omega (arith, behind))

-- what is true of each item behind a change at one place
pub set_all : {X : Type 0} (P : X → Type 0) (old now : List X) (i : ℕ) (new : X) → length now ≡ length old → i < length old
    → ((k : ℕ) (d : X) → k < i → P (get_or now k d)) → P new
    → ((k : ℕ) (d : X) → i ≤ k → get_or now k d ≡ get_or old k d) → All P old → All P (set now i new)
set_all P old now i new long there done one rest all k d within =
    ⊎_elim
    (λ so_far. set_done (λ o n. P n) old now i new long there done (λ e. one) k d so_far)
    (λ behind. subst P (sym (set_rest old now i new rest k d behind)) (all k d (omega (arith, within, long, length-set now i new))))
    (cases_lt k (i + 1))

-- a place is another one, or not
pub by_place : {P : Type 0} (i k : ℕ) → (k ≡ i → P) → (k ≢ i → P) → P
by_place i k at beside =
    ⊎_elim
    (λ below. beside (λ is. omega (arith, is, below)))
    (λ above. ⊎_elim (λ behind. beside (λ is. omega (arith, is, behind))) (λ within. at (omega (arith, above, within))) (cases_lt i k))
    (cases_lt k i)
