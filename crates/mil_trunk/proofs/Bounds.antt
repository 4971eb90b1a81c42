-- How many items a queue can hold, by the bounds of their tags.
use Rattle.std.proofs.Common.{◌≡◌, ◌≢◌, ◌≤◌, ◌<◌, ⊎_elim, ℕ, zero, suc, ◌+◌, ◌-◌, true, false, List, [], ◌∷◌, length, sum, refl, sym, ap, ◌∙◌, subst, arith, true≢false}
use Rattle.std.proofs.lemmas.Bool.{cases_lt}
use Rattle.std.proofs.lemmas.List.Sums.{sum_by-cons}
use Rattle.mil_trunk.specs.Tags.{has, bound_of, bounds_outside_from, bounds_outside}
use Rattle.mil_trunk.specs.Views.{with_tag}
use Rattle.mil_trunk.proofs.Sets.{is_either, has-zero}
use Rattle.mil_trunk.proofs.Tagging.{with_tag_first, without, with_tag-without, with_tag-without_none, length-with_tag}

bounds_outside_from-cons : (first tags b : ℕ) (bs : List ℕ) → has tags first ≡ false → bounds_outside_from first tags (b ∷ bs) ≡ b + bounds_outside_from (suc first) tags bs
unfolding bounds_outside_from
bounds_outside_from-cons first tags b bs absent = rw absent refl

bounds_outside_from-cons_held : (first tags b : ℕ) (bs : List ℕ) → has tags first ≡ true → bounds_outside_from first tags (b ∷ bs) ≡ bounds_outside_from (suc first) tags bs
unfolding bounds_outside_from
bounds_outside_from-cons_held first tags b bs it = rw it (omega arith)

module _ {T : Type 0} (tag_of : T → ℕ) where
  none_left : (first : ℕ) (items : List T) → ((t : ℕ) → t < first → with_tag tag_of t items ≡ []) → ((k n : ℕ) → n ≡ k + first → length (with_tag tag_of n items) ≤ 0) → length items ≤ 0
  none_left first [] below within = omega arith
  none_left first (x ∷ xs) below within =
      let here = with_tag_first tag_of x xs in
      absurd (⊎_elim (λ (lt : tag_of x < first). let e = ap length (below (tag_of x) lt) in omega (arith, e, here))
      (λ (ge : first ≤ tag_of x). let e = within (tag_of x - first) (tag_of x) (omega arith) in omega (arith, e, here)) (cases_lt (tag_of x) first))

  -- the items of the tags from `first` on are no more than those that were sent of some tags and the bounds of the others
  pub length-by_tags : (tags first : ℕ) (bounds : List ℕ) (items sent : List T)
      → ((t : ℕ) → t < first → with_tag tag_of t items ≡ [])
      → ((k n : ℕ) → n ≡ k + first → length (with_tag tag_of n items) ≤ bound_of bounds k)
      → ((n : ℕ) → first ≤ n → has tags n ≡ true → length (with_tag tag_of n items) ≤ length (with_tag tag_of n sent))
      → length items ≤ length sent + bounds_outside_from first tags bounds
  length-by_tags tags first [] items sent below within held = let none = none_left first items below within in omega (arith, none)
  length-by_tags tags first (b ∷ bs) items sent below within held =
      let items' = without tag_of first items in
      let sent' = without tag_of first sent in
      let apart : (n : ℕ) (xs : List T) → first < n → with_tag tag_of n (without tag_of first xs) ≡ with_tag tag_of n xs = λ n xs lt. with_tag-without tag_of first n xs (λ is. absurd (omega (arith, lt, is))) in
      let below' : (t : ℕ) → t < suc first → with_tag tag_of t items' ≡ [] = λ t lt. ⊎_elim
      (λ (low : t < first). with_tag-without tag_of first t items (λ is. absurd (omega (arith, low, is))) ∙ below t low)
      (λ (high : first ≤ t). let is : t ≡ first = omega (arith, lt, high) in subst (λ n. with_tag tag_of n items' ≡ []) (sym is) (with_tag-without_none tag_of first items)) (cases_lt t first) in
      let within' : (k n : ℕ) → n ≡ k + suc first → length (with_tag tag_of n items') ≤ bound_of bs k = λ k n is.
      let P : List T → Type 0 = λ xs. length xs ≤ bound_of bs k in subst P (sym (apart n items (omega (arith, is)))) (within (suc k) n (omega (arith, is))) in
      let held' : (n : ℕ) → suc first ≤ n → has tags n ≡ true → length (with_tag tag_of n items') ≤ length (with_tag tag_of n sent') = λ n lt it.
      let P : List T × List T → Type 0 = λ y. length y.0 ≤ length y.1 in subst P (λ i. (sym (apart n items (omega (arith, lt))) i, sym (apart n sent (omega (arith, lt))) i)) (held n (omega (arith, lt)) it) in
      let rest = length-by_tags tags (suc first) bs items' sent' below' within' held' in
      let all = length-with_tag tag_of first items in
      let all_sent = length-with_tag tag_of first sent in
      ⊎_elim
      (λ (it : has tags first ≡ true). let here = held first (omega arith) it in let e = bounds_outside_from-cons_held first tags b bs it in omega (arith, all, all_sent, rest, here, e))
      (λ (absent : has tags first ≡ false). let here = within 0 first (omega arith) in let e = bounds_outside_from-cons first tags b bs absent in omega (arith, all, all_sent, rest, here, e))
      (is_either (has tags first))

-- a set with no tag from `first` on leaves all bounds
bounds_outside_from-none : (first tags : ℕ) (bounds : List ℕ) → ((t : ℕ) → first ≤ t → has tags t ≡ false) → bounds_outside_from first tags bounds ≡ sum bounds
unfolding bounds_outside_from
bounds_outside_from-none first tags [] none = refl
bounds_outside_from-none first tags (b ∷ bs) none =
    let rest = bounds_outside_from-none (suc first) tags bs (λ t le. none t (omega (arith, le))) in rw (none first (omega arith)) (ap (λ n. b + n) rest ∙ sym (sum_by-cons (λ n. n) b bs))

-- items that are within the bound of each tag are within all bounds together
pub length-by_bounds : {T : Type 0} (tag_of : T → ℕ) (bounds : List ℕ) (items : List T) → ((t : ℕ) → length (with_tag tag_of t items) ≤ bound_of bounds t) → length items ≤ sum bounds
length-by_bounds tag_of bounds items within =
    let all = length-by_tags tag_of 0 0 bounds items [] (λ t lt. absurd (omega (arith, lt)))
    (λ k n is. let same : n ≡ k = omega (arith, is) in subst (λ m. length (with_tag tag_of m items) ≤ bound_of bounds k) (sym same) (within k))
    (λ n le it. absurd (true≢false (sym it ∙ has-zero n))) in
    let e = bounds_outside_from-none 0 0 bounds (λ t le. has-zero t) in omega (arith, all, e)

bounds_outside_from-one : (first k tags : ℕ) (bounds : List ℕ) → has tags (k + first) ≡ true → ((t : ℕ) → first ≤ t → t ≢ k + first → has tags t ≡ false) → bound_of bounds k + bounds_outside_from first tags bounds ≡ sum bounds
unfolding bounds_outside_from
bounds_outside_from-one first k tags [] it others = refl
bounds_outside_from-one first zero tags (b ∷ bs) it others =
    let rest = bounds_outside_from-none (suc first) tags bs (λ t le. others t (omega (arith, le)) (λ is. absurd (omega (arith, le, is)))) in
    let here : has tags first ≡ true = let is : zero + first ≡ first = omega arith in subst (λ n. has tags n ≡ true) is it in
    let e = bounds_outside_from-cons_held first tags b bs here in omega (arith, rest, e, sum_by-cons (λ n. n) b bs)
bounds_outside_from-one first (suc k) tags (b ∷ bs) it others =
    let same : suc k + first ≡ k + suc first = omega arith in
    let rest = bounds_outside_from-one (suc first) k tags bs (subst (λ n. has tags n ≡ true) same it) (λ t le ne. others t (omega (arith, le)) (λ is. ne (is ∙ same))) in
    let e = bounds_outside_from-cons first tags b bs (others first (omega arith) (λ is. absurd (omega (arith, is)))) in omega (arith, rest, e, sum_by-cons (λ n. n) b bs)

-- for a ticket of one tag the bounds of the others are all bounds but its own
pub bounds_outside-one : (k tags : ℕ) (bounds : List ℕ) → has tags k ≡ true → ((t : ℕ) → t ≢ k → has tags t ≡ false) → bound_of bounds k + bounds_outside tags bounds ≡ sum bounds
bounds_outside-one k tags bounds it others =
    let same : k ≡ k + 0 = omega arith in
    bounds_outside_from-one 0 k tags bounds (subst (λ n. has tags n ≡ true) same it) (λ t le ne. others t (λ is. ne (is ∙ same)))
