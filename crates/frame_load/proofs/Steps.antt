-- Each step costs one.
use Rattle.std.proofs.Common.{rules, ◌≡◌, ℕ, zero, suc, ◌+◌, ◌-◌, ◌*◌, ◌<◌, ◌≤◌, Bool, true, false, cond, List, [], ◌∷◌, ◌++◌, length, drop, Option, Some, refl, ap, ◌∙◌, arith, length-append}
use Rattle.std.specs.Prelude.{slice_get, nat_le}
use Rattle.frame_code.specs.declared.Op.{Op}
use Rattle.frame_code.specs.declared.Op.TheVariants.{Halt, Send, Alt, SetGap, Loop, Again, Leave, Jump, Test, JumpFalse, Call, Return, Begin, Pace}
use Rattle.frame_code.specs.Loadable.{tail, after, open_at}
use Rattle.frame_code.specs.Routines.{owner_at}
use Rattle.frame_load.proofs.Counts.{IsClosing}
use Rattle.frame_load.proofs.Opened.{there, opened, closed_behind, closes_no_end, IsReturn, same_routine, next_up, routine_le}
use Rattle.frame_load.proofs.Left.{inner, turn, rest}

-- the code behind as many closed brackets
abbrev pub behind : List (ℕ × ℕ) → List Op → List Op
behind [] os = os
behind (x ∷ xs) [] = []
behind (x ∷ xs) (Loop n ∷ os) = behind ((0, 0) ∷ x ∷ xs) os
behind (x ∷ xs) (Again i ∷ os) = behind xs os
behind (x ∷ xs) (Begin ∷ os) = behind ((0, 0) ∷ x ∷ xs) os
behind (x ∷ xs) (Pace h ∷ os) = behind xs os
behind (x ∷ xs) (Return ∷ os) = []
behind (x ∷ xs) (_ ∷ os) = behind (x ∷ xs) os

-- only how many brackets there are counts
behind-same : (os : List Op) (xs ys : List (ℕ × ℕ)) → length xs ≡ length ys → behind xs os ≡ behind ys os
behind-same os [] [] e = refl
behind-same os [] (y ∷ ys) e = absurd (omega arith)
behind-same os (x ∷ xs) [] e = absurd (omega arith)
behind-same [] (x ∷ xs) (y ∷ ys) e = refl
behind-same (Loop n ∷ os) (x ∷ xs) (y ∷ ys) e = behind-same os ((0, 0) ∷ x ∷ xs) ((0, 0) ∷ y ∷ ys) (omega arith)
behind-same (Again i ∷ os) (x ∷ xs) (y ∷ ys) e = behind-same os xs ys (omega arith)
behind-same (Begin ∷ os) (x ∷ xs) (y ∷ ys) e = behind-same os ((0, 0) ∷ x ∷ xs) ((0, 0) ∷ y ∷ ys) (omega arith)
behind-same (Pace h ∷ os) (x ∷ xs) (y ∷ ys) e = behind-same os xs ys (omega arith)
behind-same (Return ∷ os) (x ∷ xs) (y ∷ ys) e = refl
behind-same (_ ∷ os) (x ∷ xs) (y ∷ ys) e = behind-same os (x ∷ xs) (y ∷ ys) e

module _ (cost : Op → ℕ) where
  -- what is left is what is left of the inner brackets, and then the others
  pub rest_split : (os : List Op) (xs st : List (ℕ × ℕ)) → rest cost (xs ++ st) os ≡ inner cost xs os + rest cost st (behind xs os)
  rest_split [] [] st = refl
  rest_split [] (x ∷ xs) st = refl
  rest_split (o ∷ os) [] st = omega arith
  rest_split (Loop n ∷ os) (x ∷ xs) st =
      omega (arith, rest_split os ((n, turn cost os) ∷ x ∷ xs) st, ap (rest cost st) (behind-same os ((0, 0) ∷ x ∷ xs) ((n, turn cost os) ∷ x ∷ xs) refl))
  rest_split (Again i ∷ os) (x ∷ xs) st = omega (arith, rest_split os xs st)
  rest_split (Begin ∷ os) (x ∷ xs) st = omega (arith, rest_split os ((1, 0) ∷ x ∷ xs) st, ap (rest cost st) (behind-same os ((0, 0) ∷ x ∷ xs) ((1, 0) ∷ x ∷ xs) refl))
  rest_split (Pace h ∷ os) (x ∷ xs) st = omega (arith, rest_split os xs st)
  rest_split (Return ∷ os) (x ∷ xs) [] = omega arith
  rest_split (Return ∷ os) (x ∷ xs) (y ∷ st) = omega arith
  rest_split (_ ∷ os) (x ∷ xs) st = omega (arith, rest_split os (x ∷ xs) st)

  -- the outermost of the inner brackets costs a turn, and the turns that are left
  pub inner_last : (os : List Op) (xs : List (ℕ × ℕ)) (c b : ℕ) → inner cost (xs ++ (c, b) ∷ []) os ≤ inner cost (xs ++ (1, 0) ∷ []) os + (c - 1) * b
  inner_last [] xs c b = omega arith
  inner_last (Loop n ∷ os) [] c b = omega (arith, inner_last os ((n, turn cost os) ∷ []) c b)
  inner_last (Loop n ∷ os) (x ∷ xs) c b = omega (arith, inner_last os ((n, turn cost os) ∷ x ∷ xs) c b)
  inner_last (Again i ∷ os) [] c b = omega arith
  inner_last (Again i ∷ os) (x ∷ xs) c b = omega (arith, inner_last os xs c b)
  inner_last (Begin ∷ os) [] c b = omega (arith, inner_last os ((1, 0) ∷ []) c b)
  inner_last (Begin ∷ os) (x ∷ xs) c b = omega (arith, inner_last os ((1, 0) ∷ x ∷ xs) c b)
  inner_last (Pace h ∷ os) [] c b = omega arith
  inner_last (Pace h ∷ os) (x ∷ xs) c b = omega (arith, inner_last os xs c b)
  inner_last (Return ∷ os) [] c b = omega arith
  inner_last (Return ∷ os) (x ∷ xs) c b = omega arith
  inner_last (_ ∷ os) [] c b = omega (arith, inner_last os [] c b)
  inner_last (_ ∷ os) (x ∷ xs) c b = omega (arith, inner_last os (x ∷ xs) c b)

pub drop_at : (os : List Op) (p : ℕ) (o : Op) → slice_get os p ≡ Some o → drop p os ≡ o ∷ drop (suc p) os
drop_at [] p o e = absurd (cc)
drop_at (x ∷ os) zero o e = let same : x ≡ o = cc in ap (λ z. z ∷ os) same
drop_at (x ∷ os) (suc p) o e = drop_at os p o e

module _ (os : List Op) where
  -- the brackets that were open before p, of those that are open later
  abbrev low : ℕ → List ℕ → List ℕ
  low p [] = []
  low p (s ∷ st) = cond (nat_le s p) (s ∷ st) (low p st)

  low_tail : (p s : ℕ) (st : List ℕ) → length (low p st) ≤ length (low p (s ∷ st))
  low_tail p s st = by (nat_le s p)
    where
      long : (st : List ℕ) → length (low p st) ≤ length st
      long [] = omega arith
      long (t ∷ st) = at (nat_le t p) (long st)
        where
          at : (b : Bool) → length (low p st) ≤ length st → length (cond b (t ∷ st) (low p st)) ≤ suc (length st)
          at true h = omega arith
          at false h = omega (arith, h)

      by : (b : Bool) → length (low p st) ≤ length (cond b (s ∷ st) (low p st))
      by true = omega (arith, long st)
      by false = omega arith

  low_pop : (p : ℕ) (st : List ℕ) → length (low p (tail st)) ≤ length (low p st)
  low_pop p [] = omega arith
  low_pop p (s ∷ st) = low_tail p s st

  low_new : (p q : ℕ) (st : List ℕ) → p < q → low p (q ∷ st) ≡ low p st
  low_new p q st h = let no : nat_le q p ≡ false = search rules in ap (λ b. cond b (q ∷ st) (low p st)) no

  low_after : (p q : ℕ) (o : Option Op) (st : List ℕ) → p < q → length (low p (after o q st)) ≤ length (low p st)
  low_after p q (Some (Loop n)) st h = omega (arith, ap length (low_new p q st h))
  low_after p q (Some (Again i)) st h = low_pop p st
  low_after p q (Some Begin) st h = omega (arith, ap length (low_new p q st h))
  low_after p q (Some (Pace t)) st h = low_pop p st
  low_after p q (Some Return) st h = omega arith
  low_after p q _ st h = omega arith

  -- what is open before p only becomes less
  low_along : (p d : ℕ) → length (low p (open_at os (suc p + d))) ≤ length (low p (open_at os (suc p)))
  low_along p zero = let e : suc p + 0 ≡ suc p = omega arith in omega (arith, ap (λ q. length (low p (open_at os q))) e)
  low_along p (suc d) =
      let e : suc p + suc d ≡ suc (suc p + d) = omega arith in
      omega (arith, low_along p d, low_after p (suc p + d) (slice_get os (suc p + d)) (open_at os (suc p + d)) (omega arith), ap (λ q. length (low p (open_at os q))) e)

  low_le : (p : ℕ) (st : List ℕ) → length (low p st) ≤ length st
  low_le p [] = omega arith
  low_le p (t ∷ st) = at (nat_le t p) (low_le p st)
    where
      at : (b : Bool) → length (low p st) ≤ length st → length (cond b (t ∷ st) (low p st)) ≤ suc (length st)
      at true h = omega arith
      at false h = omega (arith, h)

  -- a bracket that was closed is not open later
  pub closed_for_good : (q d : ℕ) (o : Op) (s : ℕ) (ss : List ℕ) → IsClosing o → slice_get os q ≡ Some o → open_at os q ≡ s ∷ ss → open_at os (suc q + d) ≡ s ∷ ss → ⊥
  closed_for_good q d x s ss u at before later =
      let o = opened os q q s ss (omega arith) before in
      let yes : nat_le s q ≡ true = let le : s ≤ q = omega (arith, o.2) in search rules in
      let keeps : low q (s ∷ ss) ≡ s ∷ ss = ap (λ b. cond b (s ∷ ss) (low q ss)) yes in
      let next : open_at os (suc q) ≡ ss = closed_behind os q x u at ∙ ap tail before in
      omega (arith, low_along q d, low_le q ss, ap (λ st. length (low q st)) next, ap (λ st. length (low q st)) later, ap length keeps)

  module _ (cost : Op → ℕ) (paired : (q : ℕ) (o : Op) → IsClosing o → slice_get os q ≡ Some o → 0 < length (open_at os q)) (st : List (ℕ × ℕ)) (level : List ℕ) (i : ℕ) (there_i : open_at os i ≡ level) (in_i : i ≤ length os) where
    abbrev pub Along : ℕ → List (ℕ × ℕ) → Type 0
    Along p xs = (rest cost st (drop i os) ≤ rest cost (xs ++ st) (drop p os)) × ((y : ℕ × ℕ) → behind (xs ++ y ∷ []) (drop p os) ≡ behind (y ∷ []) (drop i os))

    -- an operation that opens and closes no bracket
    plain : (p : ℕ) (xs : List (ℕ × ℕ)) (o : Op) → drop p os ≡ o ∷ drop (suc p) os → ((zs : List (ℕ × ℕ)) → rest cost zs (o ∷ drop (suc p) os) ≡ cost o + rest cost zs (drop (suc p) os))
        → ((z : ℕ × ℕ) (zs : List (ℕ × ℕ)) → behind (z ∷ zs) (o ∷ drop (suc p) os) ≡ behind (z ∷ zs) (drop (suc p) os)) → Along (suc p) xs → Along p xs
    plain p [] o e f h a = (omega (arith, a.0, f st, ap (rest cost st) e), λ y. ap (behind (y ∷ [])) e ∙ h y [] ∙ a.1 y)
    plain p (x ∷ xs) o e f h a = (omega (arith, a.0, f (x ∷ (xs ++ st)), ap (rest cost (x ∷ (xs ++ st))) e), λ y. ap (behind (x ∷ (xs ++ y ∷ []))) e ∙ h x (xs ++ y ∷ []) ∙ a.1 y)

    -- an operation that opens a bracket
    opens : (p : ℕ) (x : ℕ × ℕ) (xs : List (ℕ × ℕ)) (o : Op) → drop p os ≡ o ∷ drop (suc p) os → ((zs : List (ℕ × ℕ)) → rest cost zs (o ∷ drop (suc p) os) ≡ cost o + rest cost (x ∷ zs) (drop (suc p) os))
        → ((z : ℕ × ℕ) (zs : List (ℕ × ℕ)) → behind (z ∷ zs) (o ∷ drop (suc p) os) ≡ behind ((0, 0) ∷ z ∷ zs) (drop (suc p) os)) → Along (suc p) (x ∷ xs) → Along p xs
    opens p x [] o e f h a = (omega (arith, a.0, f st, ap (rest cost st) e), λ y. ap (behind (y ∷ [])) e ∙ h y [] ∙ behind-same (drop (suc p) os) ((0, 0) ∷ y ∷ []) (x ∷ y ∷ []) refl ∙ a.1 y)
    opens p x (z ∷ xs) o e f h a = (
      omega (arith, a.0, f (z ∷ (xs ++ st)), ap (rest cost (z ∷ (xs ++ st))) e),
      λ y. ap (behind (z ∷ (xs ++ y ∷ []))) e ∙ h z (xs ++ y ∷ []) ∙ behind-same (drop (suc p) os) ((0, 0) ∷ z ∷ (xs ++ y ∷ [])) (x ∷ z ∷ (xs ++ y ∷ [])) refl ∙ a.1 y,
    )

    closing_rest : (o : Op) → IsClosing o → (x : ℕ × ℕ) (zs : List (ℕ × ℕ)) (ds : List Op) → rest cost (x ∷ zs) (o ∷ ds) ≡ cost o + ((x.0 - 1) * x.1 + rest cost zs ds)
    closing_rest (Again i) u x zs ds = refl
    closing_rest (Pace h) u x zs ds = refl
    closing_rest _ u x zs ds = absurd u

    closing_behind : (o : Op) → IsClosing o → (x : ℕ × ℕ) (zs : List (ℕ × ℕ)) (ds : List Op) → behind (x ∷ zs) (o ∷ ds) ≡ behind zs ds
    closing_behind (Again i) u x zs ds = refl
    closing_behind (Pace h) u x zs ds = refl
    closing_behind _ u x zs ds = absurd u

    closes : (p : ℕ) (o : Op) → IsClosing o → (x : ℕ × ℕ) (xs : List (ℕ × ℕ)) → drop p os ≡ o ∷ drop (suc p) os → Along (suc p) xs → Along p (x ∷ xs)
    closes p o u x xs e a = (
      omega (arith, a.0, ap (rest cost (x ∷ (xs ++ st))) e, closing_rest o u x (xs ++ st) (drop (suc p) os)),
      λ y. ap (behind (x ∷ (xs ++ y ∷ []))) e ∙ closing_behind o u x (xs ++ y ∷ []) (drop (suc p) os) ∙ a.1 y,
    )

    -- from a place to a later one in the same bracket
    pub along : (d p : ℕ) (extra : List ℕ) (xs : List (ℕ × ℕ)) → p + d ≡ i → owner_at os p ≡ owner_at os i → open_at os p ≡ extra ++ level → length xs ≡ length extra → Along p xs
    along zero p [] [] e home here long = let same : p ≡ i = omega (arith, e) in (omega (arith, ap (λ q. rest cost st (drop q os)) same), λ y. ap (λ q. behind (y ∷ []) (drop q os)) same)
    along zero p (x ∷ extra) xs e home here long =
        let same : p ≡ i = omega (arith, e) in
        absurd (omega (arith, ap length here, ap length there_i, ap (λ q. length (open_at os q)) same, length-append extra level))
    along zero p [] (y ∷ xs) e home here long = absurd (omega (arith, long))
    along (suc d) p extra xs e home here long = let x = there os p (omega (arith, e, in_i)) in by_op (λ extra' xs' k h l. along d (suc p) extra' xs' (omega (arith, e)) k h l) x.0 x.1
      where
        Below : Type 0
        Below = (extra' : List ℕ) (xs' : List (ℕ × ℕ)) → owner_at os (suc p) ≡ owner_at os i → open_at os (suc p) ≡ extra' ++ level → length xs' ≡ length extra' → Along (suc p) xs'

        is_after : (o : Op) → slice_get os p ≡ Some o → open_at os (suc p) ≡ after (Some o) p (extra ++ level)
        is_after o at = ap (λ v. after v p (open_at os p)) at ∙ ap (after (Some o) p) here

        stays : (o : Op) → slice_get os p ≡ Some o → (IsReturn o → ⊥) → owner_at os (suc p) ≡ owner_at os i
        stays o at h = same_routine os p o at h ∙ home

        never : (o : Op) → IsClosing o → slice_get os p ≡ Some o → (lv : List ℕ) → level ≡ lv → open_at os p ≡ lv → ⊥
        never o u at [] el eo = let none : length (open_at os p) ≡ 0 = ap length eo in omega (arith, paired p o u at, none)
        never o u at (s ∷ ss) el eo = let f : suc p + d ≡ i = omega (arith, e) in closed_for_good p d o s ss u at eo (ap (open_at os) f ∙ there_i ∙ el)

        close : (o : Op) → IsClosing o → slice_get os p ≡ Some o → ((extra' : List ℕ) (xs' : List (ℕ × ℕ)) → owner_at os (suc p) ≡ owner_at os i → open_at os (suc p) ≡ extra' ++ level → length xs' ≡ length extra' → Along (suc p) xs')
            → (ex : List ℕ) (ys : List (ℕ × ℕ)) → open_at os p ≡ ex ++ level → length ys ≡ length ex → Along p ys
        close o u at below [] ys h l = absurd (never o u at level refl h)
        close o u at below (x ∷ ex) [] h l = absurd (omega (arith, l))
        close o u at below (x ∷ ex) (y ∷ ys) h l = closes p o u y ys (drop_at os p o at) (below ex ys (stays o at (closes_no_end o u)) (closed_behind os p o u at ∙ ap tail h) (omega (arith, l)))

        by_op : ((extra' : List ℕ) (xs' : List (ℕ × ℕ)) → owner_at os (suc p) ≡ owner_at os i → open_at os (suc p) ≡ extra' ++ level → length xs' ≡ length extra' → Along (suc p) xs') → (o : Op) → slice_get os p ≡ Some o → Along p xs
        by_op below (Loop n) at = let x : ℕ × ℕ = (n, turn cost (drop (suc p) os)) in opens p x xs (Loop n) (drop_at os p (Loop n) at) (λ zs. refl) (λ z zs. refl) (below (p ∷ extra) (x ∷ xs) (stays (Loop n) at (λ z. z)) (is_after (Loop n) at) (omega (arith, long)))
        by_op below Begin at = opens p (1, 0) xs Begin (drop_at os p Begin at) (λ zs. refl) (λ z zs. refl) (below (p ∷ extra) ((1, 0) ∷ xs) (stays Begin at (λ z. z)) (is_after Begin at) (omega (arith, long)))
        by_op below (Again back) at = close (Again back) tt at below extra xs here long
        by_op below (Pace h) at = close (Pace h) tt at below extra xs here long
        by_op below Return at = absurd (let le = routine_le os (suc p) i (omega (arith, e)) in omega (arith, le, home, next_up os p at))
        by_op below Halt at = plain p xs Halt (drop_at os p Halt at) (λ zs. refl) (λ z zs. refl) (below extra xs (stays Halt at (λ z. z)) (is_after Halt at) long)
        by_op below (Send m) at = plain p xs (Send m) (drop_at os p (Send m) at) (λ zs. refl) (λ z zs. refl) (below extra xs (stays (Send m) at (λ z. z)) (is_after (Send m) at) long)
        by_op below (Alt m) at = plain p xs (Alt m) (drop_at os p (Alt m) at) (λ zs. refl) (λ z zs. refl) (below extra xs (stays (Alt m) at (λ z. z)) (is_after (Alt m) at) long)
        by_op below (SetGap t) at = plain p xs (SetGap t) (drop_at os p (SetGap t) at) (λ zs. refl) (λ z zs. refl) (below extra xs (stays (SetGap t) at (λ z. z)) (is_after (SetGap t) at) long)
        by_op below (Leave j) at = plain p xs (Leave j) (drop_at os p (Leave j) at) (λ zs. refl) (λ z zs. refl) (below extra xs (stays (Leave j) at (λ z. z)) (is_after (Leave j) at) long)
        by_op below (Jump j) at = plain p xs (Jump j) (drop_at os p (Jump j) at) (λ zs. refl) (λ z zs. refl) (below extra xs (stays (Jump j) at (λ z. z)) (is_after (Jump j) at) long)
        by_op below (Test k) at = plain p xs (Test k) (drop_at os p (Test k) at) (λ zs. refl) (λ z zs. refl) (below extra xs (stays (Test k) at (λ z. z)) (is_after (Test k) at) long)
        by_op below (JumpFalse j) at = plain p xs (JumpFalse j) (drop_at os p (JumpFalse j) at) (λ zs. refl) (λ z zs. refl) (below extra xs (stays (JumpFalse j) at (λ z. z)) (is_after (JumpFalse j) at) long)
        by_op below (Call r) at = plain p xs (Call r) (drop_at os p (Call r) at) (λ zs. refl) (λ z zs. refl) (below extra xs (stays (Call r) at (λ z. z)) (is_after (Call r) at) long)
