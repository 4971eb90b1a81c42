-- Rows by their places: how many there may be, and one more among them.
use Rattle.std.proofs.Common.{◌≡◌, ℕ, zero, suc, ◌+◌, ◌-◌, ◌<◌, ◌≤◌, List, [], ◌∷◌, ◌++◌, length, get_or, take, drop, refl, sym, ap, ◌∙◌, subst, arith}
use Rattle.std.specs.Prelude.{Bool, true, false, nat_le, ◌≢◌, slice_set, slice_index_or}
use Rattle.std.specs.List.{AllByRecursion, insert}
use Rattle.std.proofs.lemmas.Bool.{eqb-true, leb-true, leb-false}
use Rattle.std.proofs.lemmas.List.{get_or_default}
use Rattle.controller_host.specs.declared.destinations.Destination.{Destination}
use Rattle.controller_host.specs.declared.destinations.Destination.TheVariants.{Terminal, All, Mode, ModeToAll}
use Rattle.controller_host.specs.declared.sources.Row.{Row}
use Rattle.controller_host.specs.declared.sources.Source.TheVariants.{Word}
use Rattle.controller_host.specs.Destinations.{is_same, IsPlace}
use Rattle.controller_host.specs.Places.{order_of, all_places}
use Rattle.controller_host.specs.Sources.{RiseFrom, row_order, is_row_of, source_in, with_source, place_among}
use Rattle.controller_host.proofs.Orders.{order_high, same_order}

-- no more rows than places
pub few_rows : (least : ℕ) (rows : List Row) → least ≤ all_places → RiseFrom least rows → least + length rows ≤ all_places
few_rows least [] low rise = omega (arith, low)
few_rows least (row ∷ rest) low rise =
    let high = order_high row.destination row.place rise.1 in
    let more = few_rows (row_order row + 1) rest (omega (arith, high)) rise.2 in
    omega (arith, rise.0, more)

pub few_of : (rows : List Row) → RiseFrom 0 rows → length rows ≤ all_places
few_of rows rise = omega (arith, few_rows 0 rows (omega arith) rise)

abbrev pub no_row : Row
no_row = record { destination = Terminal 0 0; place = 0; source = Word 0 }

-- each of rows that rise has its place
pub place_of : (least : ℕ) (rows : List Row) (k : ℕ) (d : Row) → RiseFrom least rows → k < length rows → IsPlace (get_or rows k d).destination (get_or rows k d).place
place_of least [] k d rise less = absurd (omega (arith, less))
place_of least (row ∷ rest) zero d rise less = rise.1
place_of least (row ∷ rest) (suc k) d rise less = place_of (row_order row + 1) rest k d rise.2 (omega (arith, less))

-- where there is a row, what is read in its place plays no part
pub other_default : (rows : List Row) (k : ℕ) (x y : Row) → k < length rows → x ≡ slice_index_or rows k x → y ≡ slice_index_or rows k y → x ≡ y
other_default rows k x y less a b = a ∙ get_or_default rows k x y less ∙ sym b

-- a destination is the same as itself alone
pub same_is : (d e : Destination) → is_same d e ≡ true → d ≡ e
same_is (Terminal a s) (Terminal b t) is = grind (arith, eqb-true)
same_is (All s) (All t) is = grind (arith, eqb-true)
same_is (Mode a c) (Mode b k) is = grind (arith, eqb-true)
same_is (ModeToAll c) (ModeToAll k) is = grind (arith, eqb-true)
same_is (Terminal a s) (All t) is = absurd cc
same_is (Terminal a s) (Mode b k) is = absurd cc
same_is (Terminal a s) (ModeToAll k) is = absurd cc
same_is (All s) (Terminal b t) is = absurd cc
same_is (All s) (Mode b k) is = absurd cc
same_is (All s) (ModeToAll k) is = absurd cc
same_is (Mode a c) (Terminal b t) is = absurd cc
same_is (Mode a c) (All t) is = absurd cc
same_is (Mode a c) (ModeToAll k) is = absurd cc
same_is (ModeToAll c) (Terminal b t) is = absurd cc
same_is (ModeToAll c) (All t) is = absurd cc
same_is (ModeToAll c) (Mode b k) is = absurd cc

-- rows of one place have one order
row_is : (d : Destination) (i : ℕ) (x : Row) → is_row_of d i x ≡ true → row_order x ≡ order_of d i
row_is d i x is = go (is_same d x.destination) refl is
  where
    go : (b : Bool) → is_same d x.destination ≡ b → is_row_of d i x ≡ true → row_order x ≡ order_of d i
    go true same h =
        let place : i ≡ x.place = eqb-true i x.place (rw same at h) in
        rw (same_is d x.destination same, place) refl
    go false same h = absurd (let no : false ≡ true = rw same at h in cc)

alike : (x r : Row) (d : Destination) (i : ℕ) → x.destination ≡ r.destination → x.place ≡ r.place → is_row_of d i x ≡ is_row_of d i r
alike x r d i same place = rw (same, place) refl

module _ (r : Row) (is : IsPlace r.destination r.place) where
  abbrev o : ℕ
  o = row_order r

  -- a row below the place is not the row of a place that it has
  below_not : (x : Row) (d : Destination) (i : ℕ) → row_order x < o → is_row_of d i x ≡ true → is_row_of d i r ≡ true → ⊥
  below_not x d i less one two =
      let a = row_is d i x one in
      let b = row_is d i r two in
      omega (arith, less, a, b)

  pub front_below : (rows : List Row) → AllByRecursion (λ x. row_order x < o) (take (place_among o rows) rows)
  front_below [] = tt
  front_below (x ∷ xs) = go (nat_le o (row_order x)) refl (front_below xs)
    where
      go : (b : Bool) → nat_le o (row_order x) ≡ b → AllByRecursion (λ y. row_order y < o) (take (place_among o xs) xs) → AllByRecursion (λ y. row_order y < o) (take (place_among o (x ∷ xs)) (x ∷ xs))
      go true e more = rw e tt
      go false e more =
          let on : suc (place_among o xs) ≡ 1 + place_among o xs = omega arith in
          rw e (subst (λ n. AllByRecursion (λ y. row_order y < o) (take n (x ∷ xs))) on (leb-false o (row_order x) e, more))

  -- the first of some rows has at least this order
  abbrev pub BeginsAt : ℕ → List Row → Type 0
  BeginsAt least [] = Unit {0}
  BeginsAt least (y ∷ ys) = least ≤ row_order y

  pub rest_begins : (rows : List Row) → BeginsAt o (drop (place_among o rows) rows)
  rest_begins [] = tt
  rest_begins (x ∷ xs) = go (nat_le o (row_order x)) refl (rest_begins xs)
    where
      go : (b : Bool) → nat_le o (row_order x) ≡ b → BeginsAt o (drop (place_among o xs) xs) → BeginsAt o (drop (place_among o (x ∷ xs)) (x ∷ xs))
      go true e more = rw e (leb-true o (row_order x) e)
      go false e more =
          let on : suc (place_among o xs) ≡ 1 + place_among o xs = omega arith in
          rw e (subst (λ n. BeginsAt o (drop n (x ∷ xs))) on more)

  -- the row among others, of which those in front are below it: in the place of one of its order, and as one more
  in_place : (front : List Row) (y : Row) (ys : List Row) (d : Destination) (i : ℕ) → AllByRecursion (λ x. row_order x < o) front → is_row_of d i y ≡ is_row_of d i r
      → source_in (front ++ r ∷ ys) d i ≡ with_source r (source_in (front ++ y ∷ ys) d i) d i
  in_place [] y ys d i below same = go (is_row_of d i r) refl
    where
      go : (b : Bool) → is_row_of d i r ≡ b → source_in (r ∷ ys) d i ≡ with_source r (source_in (y ∷ ys) d i) d i
      go true e = rw e refl
      go false e = rw (same, e) refl
  in_place (x ∷ xs) y ys d i below same = go (is_row_of d i x) refl (is_row_of d i r) refl (in_place xs y ys d i below.1 same)
    where
      go : (a : Bool) → is_row_of d i x ≡ a → (b : Bool) → is_row_of d i r ≡ b → source_in (xs ++ r ∷ ys) d i ≡ with_source r (source_in (xs ++ y ∷ ys) d i) d i
          → source_in (x ∷ (xs ++ r ∷ ys)) d i ≡ with_source r (source_in (x ∷ (xs ++ y ∷ ys)) d i) d i
      go true e true f more = absurd (below_not x d i below.0 e f)
      go true e false f more = rw (e, f) refl
      go false e b f more = rw e more

  pub one_more : (front ys : List Row) (d : Destination) (i : ℕ) → AllByRecursion (λ x. row_order x < o) front
      → source_in (front ++ r ∷ ys) d i ≡ with_source r (source_in (front ++ ys) d i) d i
  one_more [] ys d i below = refl
  one_more (x ∷ xs) ys d i below = go (is_row_of d i x) refl (is_row_of d i r) refl (one_more xs ys d i below.1)
    where
      go : (a : Bool) → is_row_of d i x ≡ a → (b : Bool) → is_row_of d i r ≡ b → source_in (xs ++ r ∷ ys) d i ≡ with_source r (source_in (xs ++ ys) d i) d i
          → source_in (x ∷ (xs ++ r ∷ ys)) d i ≡ with_source r (source_in (x ∷ (xs ++ ys)) d i) d i
      go true e true f more = absurd (below_not x d i below.0 e f)
      go true e false f more = rw (e, f) refl
      go false e b f more = rw e more

  -- they rise
  rise_in_place : (least : ℕ) (front : List Row) (y : Row) (ys : List Row) → row_order y ≡ o → RiseFrom least (front ++ y ∷ ys) → RiseFrom least (front ++ r ∷ ys)
  rise_in_place least [] y ys same rise = (omega (arith, same, rise.0), is, rw (sym same) rise.2)
  rise_in_place least (x ∷ xs) y ys same rise = (rise.0, rise.1, rise_in_place (row_order x + 1) xs y ys same rise.2)

  -- rows that rise, behind another place
  from_there : (least more : ℕ) (ys : List Row) → RiseFrom least ys → BeginsAt more ys → RiseFrom more ys
  from_there least more [] rise begins = tt
  from_there least more (y ∷ ys) rise begins = (begins, rise.1, rise.2)

  rise_one_more : (least : ℕ) (front ys : List Row) → least ≤ o → AllByRecursion (λ x. row_order x < o) front → BeginsAt (o + 1) ys → RiseFrom least (front ++ ys) → RiseFrom least (front ++ r ∷ ys)
  rise_one_more least [] ys low below begins rise = (low, is, from_there least (o + 1) ys rise begins)
  rise_one_more least (x ∷ xs) ys low below begins rise = (rise.0, rise.1, rise_one_more (row_order x + 1) xs ys (omega (arith, below.0)) below.1 begins rise.2)

  -- a row of rows that rise has its place
  place_in : (least : ℕ) (front : List Row) (y : Row) (ys : List Row) → RiseFrom least (front ++ y ∷ ys) → IsPlace y.destination y.place
  place_in least [] y ys rise = rise.1
  place_in least (x ∷ xs) y ys rise = place_in (row_order x + 1) xs y ys rise.2

  set_is : (rows : List Row) (k : ℕ) → k < length rows → slice_set rows k r ≡ take k rows ++ r ∷ drop (suc k) rows
  set_is [] k less = absurd (omega (arith, less))
  set_is (x ∷ xs) zero less = refl
  set_is (x ∷ xs) (suc k) less = ap (λ zs. x ∷ zs) (set_is xs k (omega (arith, less)))

  split_at : (rows : List Row) (k : ℕ) (y : Row) → k < length rows → y ≡ slice_index_or rows k y → rows ≡ take k rows ++ y ∷ drop (suc k) rows
  split_at [] k y less e = absurd (omega (arith, less))
  split_at (x ∷ xs) zero y less e = ap (λ z. z ∷ xs) (sym e)
  split_at (x ∷ xs) (suc k) y less e = ap (λ zs. x ∷ zs) (split_at xs k y (omega (arith, less)) e)

  parted : (rows : List Row) (k : ℕ) → rows ≡ take k rows ++ drop k rows
  parted [] zero = refl
  parted [] (suc k) = refl
  parted (x ∷ xs) zero = refl
  parted (x ∷ xs) (suc k) = ap (λ zs. x ∷ zs) (parted xs k)

  -- what becomes of the rows
  pub record IsPut (rows new : List Row) : Type 0 where
    pub rise : RiseFrom 0 new
    pub sources : (d : Destination) (i : ℕ) → source_in new d i ≡ with_source r (source_in rows d i) d i

  pub replaced : (rows : List Row) (k : ℕ) (y : Row) → RiseFrom 0 rows → k ≡ place_among o rows → k < length rows → y ≡ slice_index_or rows k y → row_order y ≡ o → IsPut rows (slice_set rows k r)
  replaced rows k y rise place less at same =
      let front = take k rows in
      let ys = drop (suc k) rows in
      let whole = split_at rows k y less at in
      let rise_there : RiseFrom 0 (front ++ y ∷ ys) = subst (RiseFrom 0) whole rise in
      let keys = same_order y.destination r.destination y.place r.place (place_in 0 front y ys rise_there) is same in
      let below : AllByRecursion (λ x. row_order x < o) front = subst (λ n. AllByRecursion (λ x. row_order x < o) (take n rows)) (sym place) (front_below rows) in
      let new = set_is rows k less in
      record {
        rise = subst (RiseFrom 0) (sym new) (rise_in_place 0 front y ys same rise_there);
        sources = λ d i.
            ap (λ rs. source_in rs d i) new
            ∙ in_place front y ys d i below (alike y r d i keys.0 keys.1)
            ∙ ap (λ rs. with_source r (source_in rs d i) d i) (sym whole);
      }

  not_at : (rest : List Row) → BeginsAt o rest → ((y : Row) → (ys : List Row) → rest ≡ y ∷ ys → row_order y ≢ o) → BeginsAt (o + 1) rest
  not_at [] begins other = tt
  not_at (y ∷ ys) begins other = let ne = other y ys refl in omega (arith, begins, ne)

  first_at : (rows : List Row) (k : ℕ) (y : Row) (ys : List Row) → drop k rows ≡ y ∷ ys → (k < length rows) × (y ≡ slice_index_or rows k y)
  first_at [] zero y ys e = absurd cc
  first_at [] (suc k) y ys e = absurd cc
  first_at (x ∷ xs) zero y ys e = (omega arith, let h : x ≡ y = cc in sym h)
  first_at (x ∷ xs) (suc k) y ys e = let more = first_at xs k y ys e in (omega (arith, more.0), more.1)

  pub inserted : (rows : List Row) (k : ℕ) → RiseFrom 0 rows → k ≡ place_among o rows → (k < length rows → (y : Row) → y ≡ slice_index_or rows k y → row_order y ≢ o) → IsPut rows (insert rows k r)
  inserted rows k rise place other =
      let front = take k rows in
      let rest = drop k rows in
      let whole = parted rows k in
      let below : AllByRecursion (λ x. row_order x < o) front = subst (λ n. AllByRecursion (λ x. row_order x < o) (take n rows)) (sym place) (front_below rows) in
      let begins : BeginsAt o rest = subst (λ n. BeginsAt o (drop n rows)) (sym place) (rest_begins rows) in
      let above : BeginsAt (o + 1) rest = not_at rest begins (λ y ys e. let at = first_at rows k y ys e in other at.0 y at.1) in
      record {
        rise = rise_one_more 0 front rest (omega arith) below above (subst (RiseFrom 0) whole rise);
        sources = λ d i. one_more front rest d i below ∙ ap (λ rs. with_source r (source_in rs d i) d i) (sym whole);
      }
