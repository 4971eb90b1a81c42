-- The heads of channels, as they go into a heap and out of it.
use Rattle.std.proofs.Common.{◌≡◌, ◌⊎◌, inl, inr, ℕ, zero, suc, ◌+◌, ◌<◌, ◌≤◌, Bool, true, false, cond, eqb, ltb, List, [], ◌∷◌, length, get_or, sum_by, Contains, IsPermutation, refl, sym, ap, subst, ◌∙◌, arith}
use Rattle.std.specs.List.{AllByRecursion}
use Rattle.std.specs.Ordering.{is_lt, ordering_then, nat_cmp}
use Rattle.std.specs.declared.cmp.Ordering.{Ordering}
use Rattle.std.specs.declared.cmp.Ordering.TheVariants.{Less, Equal, Greater}
use Rattle.std.proofs.lemmas.Bool.{eq-eqb, ne_eqb, cases_eq, ltb-false, eqb-true, eqb-false}
use Rattle.std.proofs.lemmas.List.Elements.{Contains-append_right, Contains-append_cases, Contains-get_or}
use Rattle.std.proofs.lemmas.List.Sorted.{Contains-permutation, IsPermutation-sym, sum_by_pushed, sum_by_popped}
use Rattle.std.proofs.lemmas.List.Sums.{sum_by_more_le, sum_by-le}
use Rattle.bench_complete.specs.declared.placed.Placed.{Placed}
use Rattle.bench_complete.specs.declared.head.Head.{Head}
use Rattle.bench_complete.specs.declared.times.Times.{Times}
use Rattle.bench_complete.specs.Pieces.{Piece}
use Rattle.bench_complete.specs.Merging.{IsNotBehind}
use Rattle.bench_complete.specs.Lanes.{IsAhead, Stands, on_channel, AreHeads, head_cmp}
use Rattle.bench_complete.proofs.Merged.{put, put-same, put-other}

-- ---- elements of lists

in_front : {X : Type 0} (x : X) (xs : List X) → Contains (x ∷ xs) x
in_front x xs = (0, omega arith, refl)

behind_one : {X : Type 0} (x : X) (xs : List X) (y : X) → Contains xs y → Contains (x ∷ xs) y
behind_one x xs y c = Contains-append_right (x ∷ []) xs y c

only_one : {X : Type 0} (x y : X) → Contains (x ∷ []) y → x ≡ y
only_one x y (zero, lt, is) = is
only_one x y (suc k, lt, is) = absurd (omega arith)

first_or_behind : {X : Type 0} (x : X) (xs : List X) (y : X) → Contains (x ∷ xs) y → (x ≡ y) ⊎ Contains xs y
first_or_behind x xs y c = elim (Contains-append_cases (x ∷ []) xs y c) [ inl one ↦ inl (only_one x y one) | inr other ↦ inr other ]

none_contained : {X : Type 0} (x : X) → Contains [] x → ⊥
none_contained x (k, lt, is) = omega arith

counted : {X : Type 0} (f : X → ℕ) (xs : List X) (x : X) → Contains xs x → f x ≤ sum_by f xs
counted f xs x (k, lt, is) = omega (arith, sum_by_more_le f xs k x lt, ap f is)

zero_sum : {X : Type 0} (f : X → ℕ) (xs : List X) → ((x : X) → Contains xs x → f x ≡ 0) → sum_by f xs ≡ 0
zero_sum f xs none = omega (arith, sum_by-le f 0 xs (λ k d lt. omega (arith, none (get_or xs k d) (Contains-get_or xs k d lt))))

pub all_contained : {X : Type 0} (P : X → Type 0) (xs : List X) (k : ℕ) (x : X) → AllByRecursion P xs → k < length xs → get_or xs k x ≡ x → P x
all_contained P [] k x all lt is = absurd (omega arith)
all_contained P (y ∷ ys) zero x all lt is = subst P is all.0
all_contained P (y ∷ ys) (suc k) x all lt is = all_contained P ys k x all.1 (omega (arith, lt)) is

-- ---- heads

module _ (file : List ℕ) (es : List Placed) (t : Times) where
  on_own : (channel : ℕ) (h : Head) → h.channel ≡ channel → on_channel channel h ≡ 1
  on_own channel h e = rw (eq-eqb h.channel channel e) refl

  on_other : (channel : ℕ) (h : Head) → (h.channel ≡ channel → ⊥) → on_channel channel h ≡ 0
  on_other channel h ne = rw (ne_eqb h.channel channel ne) refl

  pub no_heads : AreHeads file es t [] (λ _. [])
  no_heads = record { sound = λ h c. absurd (none_contained h c); whole = λ channel p ps e. absurd (cc); single = λ channel. omega arith }

  pub same_heads : (heads : List Head) (rest other : ℕ → List Piece) → ((k : ℕ) → rest k ≡ other k) → AreHeads file es t heads rest → AreHeads file es t heads other
  same_heads heads rest other same a = record {
    sound = λ h c. subst (Stands file es t h) (same h.channel) (a.sound h c);
    whole = λ channel p ps e. a.whole channel p ps (same channel ∙ e);
    single = a.single;
  }

  -- the channel of a head that went out has no other
  gone : (heads others : List Head) (x h : Head) (rest : ℕ → List Piece) → AreHeads file es t heads rest → IsPermutation heads (x ∷ others) → Contains others h → h.channel ≡ x.channel → ⊥
  gone heads others x h rest a perm c same =
      let one = on_own x.channel x refl in
      let two = on_own x.channel h same in
      let some = counted (on_channel x.channel) others h c in
      let all = sum_by_popped (on_channel x.channel) x heads others perm in
      let most = a.single x.channel in
      omega (arith, one, two, some, all, most)

  whole_of_others : (heads others : List Head) (x : Head) (rest : ℕ → List Piece) → AreHeads file es t heads rest → IsPermutation heads (x ∷ others)
      → (channel : ℕ) (p : Piece) (ps : List Piece) → (channel ≡ x.channel) ⊎ (channel ≡ x.channel → ⊥) → put rest x.channel [] channel ≡ p ∷ ps → (h : Head) × Contains others h × (h.channel ≡ channel)
  whole_of_others heads others x rest a perm channel p ps (inl same) e =
      let none : put rest x.channel [] channel ≡ [] = ap (put rest x.channel []) same ∙ put-same rest x.channel [] in
      absurd (cc)
  whole_of_others heads others x rest a perm channel p ps (inr ne) e =
      let w = a.whole channel p ps (sym (put-other rest x.channel channel [] ne) ∙ e) in
      elim (first_or_behind x others w.0 (Contains-permutation heads (x ∷ others) w.0 perm w.1)) [
        | inl is ↦ absurd (ne (sym w.2 ∙ sym (ap (λ (h : Head). h.channel) is)))
        | inr c ↦ (w.0, c, w.2)
      ]

  -- a head goes out: its channel is left out
  pub takes : (heads others : List Head) (x : Head) (rest : ℕ → List Piece) → AreHeads file es t heads rest → IsPermutation heads (x ∷ others) → AreHeads file es t others (put rest x.channel [])
  takes heads others x rest a perm = record {
    sound = λ h c. subst (Stands file es t h) (sym (put-other rest x.channel h.channel [] (gone heads others x h rest a perm c)))
        (a.sound h (Contains-permutation (x ∷ others) heads h (IsPermutation-sym heads (x ∷ others) perm) (behind_one x others h c)));
    whole = λ channel p ps e. whole_of_others heads others x rest a perm channel p ps (cases_eq channel x.channel) e;
    single = λ channel. omega (arith, sum_by_popped (on_channel channel) x heads others perm, a.single channel);
  }

  taken_channel : (heads : List Head) (n h : Head) (rest : ℕ → List Piece) → AreHeads file es t heads rest → rest n.channel ≡ [] → Contains heads h → h.channel ≡ n.channel → ⊥
  taken_channel heads n h rest a free c same =
      let s = a.sound h c in
      let e : rest h.channel ≡ [] = ap rest same ∙ free in
      let f = s.is in
      absurd (cc)

  sound_of_more : (heads : List Head) (n : Head) (rest more : ℕ → List Piece) → AreHeads file es t heads rest → rest n.channel ≡ [] → ((k : ℕ) → (k ≡ n.channel → ⊥) → rest k ≡ more k)
      → Stands file es t n (more n.channel) → (h : Head) → (n ≡ h) ⊎ Contains heads h → Stands file es t h (more h.channel)
  sound_of_more heads n rest more a free same stands h (inl is) = subst (λ (x : Head). Stands file es t x (more x.channel)) is stands
  sound_of_more heads n rest more a free same stands h (inr c) = subst (Stands file es t h) (same h.channel (taken_channel heads n h rest a free c)) (a.sound h c)

  whole_of_more : (heads : List Head) (n : Head) (rest more : ℕ → List Piece) → AreHeads file es t heads rest → ((k : ℕ) → (k ≡ n.channel → ⊥) → rest k ≡ more k)
      → (channel : ℕ) (p : Piece) (ps : List Piece) → (channel ≡ n.channel) ⊎ (channel ≡ n.channel → ⊥) → more channel ≡ p ∷ ps → (h : Head) × Contains (n ∷ heads) h × (h.channel ≡ channel)
  whole_of_more heads n rest more a same channel p ps (inl is) e = (n, in_front n heads, sym is)
  whole_of_more heads n rest more a same channel p ps (inr ne) e =
      let w = a.whole channel p ps (same channel ne ∙ e) in (w.0, behind_one n heads w.0 w.1, w.2)

  single_of_more : (heads : List Head) (n : Head) (rest : ℕ → List Piece) → AreHeads file es t heads rest → rest n.channel ≡ [] → (channel : ℕ) → (n.channel ≡ channel) ⊎ (n.channel ≡ channel → ⊥)
      → on_channel channel n + sum_by (on_channel channel) heads ≤ 1
  single_of_more heads n rest a free channel (inl is) =
      let none = zero_sum (on_channel channel) heads (λ h c. on_other channel h (λ e. taken_channel heads n h rest a free c (e ∙ sym is))) in
      omega (arith, none, on_own channel n is)
  single_of_more heads n rest a free channel (inr ne) = omega (arith, on_other channel n ne, a.single channel)

  -- a head goes in, of a channel that had none
  pub adds : (heads new : List Head) (n : Head) (rest more : ℕ → List Piece) → AreHeads file es t heads rest → rest n.channel ≡ [] → ((k : ℕ) → (k ≡ n.channel → ⊥) → rest k ≡ more k)
      → Stands file es t n (more n.channel) → IsPermutation (n ∷ heads) new → AreHeads file es t new more
  adds heads new n rest more a free same stands perm = record {
    sound = λ h c. sound_of_more heads n rest more a free same stands h (first_or_behind n heads h (Contains-permutation new (n ∷ heads) h (IsPermutation-sym (n ∷ heads) new perm) c));
    whole = λ channel p ps e. let w = whole_of_more heads n rest more a same channel p ps (cases_eq channel n.channel) e in (w.0, Contains-permutation (n ∷ heads) new w.0 perm w.1, w.2);
    single = λ channel. omega (arith, single_of_more heads n rest a free channel (cases_eq n.channel channel), sum_by_pushed (on_channel channel) n heads new perm);
  }

  none_left_by : (rest : ℕ → List Piece) → AreHeads file es t [] rest → (k : ℕ) (l : List Piece) → rest k ≡ l → l ≡ []
  none_left_by rest a k [] e = refl
  none_left_by rest a k (p ∷ ps) e = let w = a.whole k p ps e in absurd (none_contained w.0 w.1)

  -- where no head is left, no channel has a packet left
  pub none_left : (rest : ℕ → List Piece) → AreHeads file es t [] rest → (k : ℕ) → rest k ≡ []
  none_left rest a k = none_left_by rest a k (rest k) refl

-- ---- the order of heads

by_number : (a b : ℕ) (others : Ordering) (less same : Bool) → ltb b a ≡ less → eqb b a ≡ same
    → is_lt (ordering_then (cond less Less (cond same Equal Greater)) others) ≡ false → (a < b) ⊎ ((a ≡ b) × (is_lt others ≡ false))
by_number a b others true same l s is = absurd (cc)
by_number a b others false true l s is = inr (sym (eqb-true b a s), is)
by_number a b others false false l s is =
    let le = ltb-false b a l in
    let ne : a ≡ b → ⊥ = λ e. eqb-false b a s (sym e) in
    inl (omega (arith, le, ne))

by_last : (a b : ℕ) (less same : Bool) → ltb b a ≡ less → is_lt (cond less Less (cond same Equal Greater)) ≡ false → a ≤ b
by_last a b true same l is = absurd (cc)
by_last a b false same l is = ltb-false b a l

pub not_behind : (x h : Head) (p q : Piece) → IsAhead x p → IsAhead h q → is_lt (head_cmp x h) ≡ false → IsNotBehind p.header q.header
not_behind x h p q a b is =
    elim (by_number x.counter h.counter (ordering_then (nat_cmp h.turn x.turn) (nat_cmp h.channel x.channel)) (ltb h.counter x.counter) (eqb h.counter x.counter) refl refl is) [
      | inl less ↦ inl (omega (arith, a.counter, b.counter, less))
      | inr same ↦ inr (
        omega (arith, a.counter, b.counter, same.0),
        elim (by_number x.turn h.turn (nat_cmp h.channel x.channel) (ltb h.turn x.turn) (eqb h.turn x.turn) refl refl same.1) [
          | inl less ↦ inl (omega (arith, a.turn, b.turn, less))
          | inr equal ↦ inr (omega (arith, a.turn, b.turn, equal.0), omega (arith, a.channel, b.channel, by_last x.channel h.channel (ltb h.channel x.channel) (eqb h.channel x.channel) refl equal.1))
        ],
      )
    ]
