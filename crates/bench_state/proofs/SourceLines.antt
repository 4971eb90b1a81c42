-- Rows of sources that rise, one behind the other, make the lines of all destinations.
use Rattle.std.proofs.Common.{◌≡◌, ℕ, zero, suc, ◌+◌, ◌-◌, ◌*◌, ◌<◌, ◌≤◌, eqb, List, [], ◌∷◌, ◌++◌, map, refl, sym, ap, ◌∙◌, subst, arith}
use Rattle.std.specs.Prelude.{Bool, true, false, nat_le, if◌then◌else◌, Option, Some, None, codes}
use Rattle.std.specs.List.{flat_map, range_with_len}
use Rattle.std.proofs.lemmas.Bool.{eq-eqb, eqb-true, leb-true, leb-false, and_from}
use Rattle.std.proofs.lemmas.List.{append_assoc}
use Rattle.text_lines.specs.Words.{Text}
use Rattle.controller_host.specs.declared.destinations.Destination.{Destination}
use Rattle.controller_host.specs.declared.destinations.Destination.TheVariants.{Terminal, All, Mode, ModeToAll}
use Rattle.controller_host.specs.declared.sources.Source.{Source}
use Rattle.controller_host.specs.declared.sources.Row.{Row}
use Rattle.controller_host.specs.Destinations.{is_same, most_words_to, IsDestination, IsPlace}
use Rattle.controller_host.specs.Places.{order_of, all_places}
use Rattle.controller_host.specs.Sources.{is_row_of, source_in, row_order, RiseFrom, AreRows}
use Rattle.controller_host.proofs.Orders.{order_high, same_order}
use Rattle.controller_host.proofs.Rising.{same_is}
use Rattle.controller_text.specs.Printing.{destination_text}
use Rattle.bench_state.specs.ControllerText.{place_text, source_text, kept_in_front, up_to_last, line_of, destination_line, mode_codes, all_destinations, sources_text, controller_lines, controller_text}
use Rattle.bench_state.specs.SourceRows.{dots, rows_text}

-- ---- all destinations, without a gap between their places

-- each begins where the one before it ends
abbrev Follow : ℕ → List Destination → ℕ → Type 0
Follow from [] to = from ≡ to
Follow from (d ∷ ds) to = (order_of d 1 ≡ from) × IsDestination d × Follow (from + most_words_to d) ds to

record Runs (from : ℕ) (ds : List Destination) (to : ℕ) : Type 0 where
  pub follow : Follow from ds to

follow_both : (from mid to : ℕ) (xs ys : List Destination) → Follow from xs mid → Follow mid ys to → Follow from (xs ++ ys) to
follow_both from mid to [] ys a b = subst (λ n. Follow n ys to) (sym a) b
follow_both from mid to (d ∷ xs) ys a b = (a.0, a.1, follow_both (from + most_words_to d) mid to xs ys a.2 b)

runs_both : (from mid to : ℕ) (xs ys : List Destination) → Runs from xs mid → Runs mid ys to → Runs from (xs ++ ys) to
runs_both from mid to xs ys a b = record { follow = follow_both from mid to xs ys a.follow b.follow }

subaddresses : (a s n from to : ℕ) → a ≤ 30 → 1 ≤ s → s + n ≤ 31 → from ≡ (30 * a + (s - 1)) * 32 → to ≡ from + 32 * n → Follow from (map (λ sub. Terminal a sub) (range_with_len s n)) to
unfolding order_of
subaddresses a s zero from to high low few here there = omega (arith, there)
subaddresses a s (suc n) from to high low few here there =
    (omega (arith, here), (high, (low, omega (arith, few))), subaddresses a (s + 1) n (from + 32) to high (omega (arith, low)) (omega (arith, few)) (omega (arith, here, low)) (omega (arith, there)))

all_subaddresses : (s n from to : ℕ) → 1 ≤ s → s + n ≤ 31 → from ≡ (930 + (s - 1)) * 32 → to ≡ from + 32 * n → Follow from (map (λ sub. All sub) (range_with_len s n)) to
unfolding order_of
all_subaddresses s zero from to low few here there = omega (arith, there)
all_subaddresses s (suc n) from to low few here there =
    (omega (arith, here), (low, omega (arith, few)), all_subaddresses (s + 1) n (from + 32) to (omega (arith, low)) (omega (arith, few)) (omega (arith, here, low)) (omega (arith, there)))

codes_from : (a c n from to : ℕ) → a ≤ 30 → 20 ≤ c → c + n ≤ 32 → from ≡ 30720 + 13 * a + (c - 19) → to ≡ from + n → Follow from (map (λ code. Mode a code) (range_with_len c n)) to
unfolding order_of
codes_from a c zero from to high low few here there = omega (arith, there)
codes_from a c (suc n) from to high low few here there =
    (omega (arith, here), (high, (omega (arith, low), omega (arith, few), omega (arith, low), omega (arith, low))), codes_from a (c + 1) n (from + 1) to high (omega (arith, low)) (omega (arith, few)) (omega (arith, here, low)) (omega (arith, there)))

all_codes_from : (c n from to : ℕ) → 20 ≤ c → c + n ≤ 32 → from ≡ 31123 + (c - 19) → to ≡ from + n → Follow from (map (λ code. ModeToAll code) (range_with_len c n)) to
unfolding order_of
all_codes_from c zero from to low few here there = omega (arith, there)
all_codes_from c (suc n) from to low few here there =
    (omega (arith, here), (omega (arith, low), omega (arith, few), omega (arith, low), omega (arith, low)), all_codes_from (c + 1) n (from + 1) to (omega (arith, low)) (omega (arith, few)) (omega (arith, here, low)) (omega (arith, there)))

mode_codes_of : (a from to : ℕ) → a ≤ 30 → from ≡ 30720 + 13 * a → to ≡ from + 13 → Follow from (map (λ code. Mode a code) mode_codes) to
unfolding order_of
mode_codes_of a from to high here there =
    (omega (arith, here), (high, (omega arith, omega arith, omega arith, omega arith)), codes_from a 20 12 (from + 1) to high (omega arith) (omega arith) (omega (arith, here)) (omega (arith, there)))

terminals : (a n from to : ℕ) → a + n ≤ 31 → from ≡ 960 * a → to ≡ from + 960 * n → Follow from (flat_map (λ address. map (λ sub. Terminal address sub) (range_with_len 1 30)) (range_with_len a n)) to
terminals a zero from to few here there = omega (arith, there)
terminals a (suc n) from to few here there =
    follow_both from (from + 960) to (map (λ sub. Terminal a sub) (range_with_len 1 30)) (flat_map (λ address. map (λ sub. Terminal address sub) (range_with_len 1 30)) (range_with_len (a + 1) n))
    (subaddresses a 1 30 from (from + 960) (omega (arith, few)) (omega arith) (omega arith) (omega (arith, here)) (omega arith))
    (terminals (a + 1) n (from + 960) to (omega (arith, few)) (omega (arith, here)) (omega (arith, there)))

mode_terminals : (a n from to : ℕ) → a + n ≤ 31 → from ≡ 30720 + 13 * a → to ≡ from + 13 * n → Follow from (flat_map (λ address. map (λ code. Mode address code) mode_codes) (range_with_len a n)) to
mode_terminals a zero from to few here there = omega (arith, there)
mode_terminals a (suc n) from to few here there =
    follow_both from (from + 13) to (map (λ code. Mode a code) mode_codes) (flat_map (λ address. map (λ code. Mode address code) mode_codes) (range_with_len (a + 1) n))
    (mode_codes_of a from (from + 13) (omega (arith, few)) here refl)
    (mode_terminals (a + 1) n (from + 13) to (omega (arith, few)) (omega (arith, here)) (omega (arith, there)))

run_of_terminals : (a n from to : ℕ) → a + n ≤ 31 → from ≡ 960 * a → to ≡ from + 960 * n → Runs from (flat_map (λ address. map (λ sub. Terminal address sub) (range_with_len 1 30)) (range_with_len a n)) to
run_of_terminals a n from to few here there = record { follow = terminals a n from to few here there }

run_of_all : (s n from to : ℕ) → 1 ≤ s → s + n ≤ 31 → from ≡ (930 + (s - 1)) * 32 → to ≡ from + 32 * n → Runs from (map (λ sub. All sub) (range_with_len s n)) to
run_of_all s n from to low few here there = record { follow = all_subaddresses s n from to low few here there }

run_of_modes : (a n from to : ℕ) → a + n ≤ 31 → from ≡ 30720 + 13 * a → to ≡ from + 13 * n → Runs from (flat_map (λ address. map (λ code. Mode address code) mode_codes) (range_with_len a n)) to
run_of_modes a n from to few here there = record { follow = mode_terminals a n from to few here there }

run_of_modes_to_all : Runs 31123 (map (λ code. ModeToAll code) mode_codes) 31136
unfolding order_of
run_of_modes_to_all = record {
  follow = (omega arith, (omega arith, omega arith, omega arith, omega arith), all_codes_from 20 12 31124 31136 (omega arith) (omega arith) (omega arith) (omega arith));
}

abbrev to_terminals : List Destination
to_terminals = flat_map (λ address. map (λ sub. Terminal address sub) (range_with_len 1 30)) (range_with_len 0 31)

abbrev to_all : List Destination
to_all = map (λ sub. All sub) (range_with_len 1 30)

abbrev with_codes : List Destination
with_codes = flat_map (λ address. map (λ code. Mode address code) mode_codes) (range_with_len 0 31)

abbrev with_codes_to_all : List Destination
with_codes_to_all = map (λ code. ModeToAll code) mode_codes

run_of_all_destinations : Runs 0 all_destinations all_places
unfolding all_destinations
run_of_all_destinations =
    runs_both 0 29760 31136 to_terminals (to_all ++ (with_codes ++ with_codes_to_all)) (run_of_terminals 0 31 0 29760 (omega arith) (omega arith) (omega arith))
    (runs_both 29760 30720 31136 to_all (with_codes ++ with_codes_to_all) (run_of_all 1 30 29760 30720 (omega arith) (omega arith) (omega arith) (omega arith))
    (runs_both 30720 31123 31136 with_codes with_codes_to_all (run_of_modes 0 31 30720 31123 (omega arith) (omega arith) (omega arith)) run_of_modes_to_all))

-- ---- places and rows

same_itself : (d : Destination) → is_same d d ≡ true
same_itself (Terminal address subaddress) = and_from (eqb address address) (eqb subaddress subaddress) (eq-eqb address address refl) (eq-eqb subaddress subaddress refl)
same_itself (All subaddress) = eq-eqb subaddress subaddress refl
same_itself (Mode address code) = and_from (eqb address address) (eqb code code) (eq-eqb address address refl) (eq-eqb code code refl)
same_itself (ModeToAll code) = eq-eqb code code refl

place_order : (d : Destination) (i : ℕ) → IsPlace d i → order_of d i + 1 ≡ order_of d 1 + i
unfolding order_of
place_order (Terminal a s) i is = omega (arith, is.low)
place_order (All s) i is = omega (arith, is.low)
place_order (Mode a c) i is = omega (arith, is.low, is.high)
place_order (ModeToAll c) i is = omega (arith, is.low, is.high)

-- a place behind the first of a destination, but not of it, is behind its last
outside : (d e : Destination) (i : ℕ) → IsDestination d → IsPlace e i → order_of d 1 ≤ order_of e i → is_same d e ≡ false → order_of d 1 + most_words_to d ≤ order_of e i
outside d e i is place low other = go (nat_le (order_of d 1 + most_words_to d) (order_of e i)) refl
  where
    go : (b : Bool) → nat_le (order_of d 1 + most_words_to d) (order_of e i) ≡ b → order_of d 1 + most_words_to d ≤ order_of e i
    go true h = leb-true (order_of d 1 + most_words_to d) (order_of e i) h
    go false h =
        let less = leb-false (order_of d 1 + most_words_to d) (order_of e i) h in
        let there : IsPlace d (order_of e i - order_of d 1 + 1) = record { destination = is; low = omega arith; high = omega (arith, low, less) } in
        let order : order_of d (order_of e i - order_of d 1 + 1) ≡ order_of e i = omega (arith, place_order d (order_of e i - order_of d 1 + 1) there, low) in
        let same = same_order d e (order_of e i - order_of d 1 + 1) i there place order in
        absurd (let no : true ≡ false = sym (same_itself d) ∙ ap (λ x. is_same d x) same.0 ∙ other in cc)

row_at : (d : Destination) (i : ℕ) (x : Row) → is_row_of d i x ≡ true → (d ≡ x.destination) × (i ≡ x.place)
row_at d i x is = go (is_same d x.destination) refl is
  where
    go : (b : Bool) → is_same d x.destination ≡ b → is_row_of d i x ≡ true → (d ≡ x.destination) × (i ≡ x.place)
    go true same h = (same_is d x.destination same, eqb-true i x.place (rw same at h))
    go false same h = absurd (let no : false ≡ true = rw same at h in cc)

order_at : (d : Destination) (i : ℕ) (x : Row) → is_row_of d i x ≡ true → row_order x ≡ order_of d i
order_at d i x is =
    let at = row_at d i x is in
    ap (λ e. order_of e x.place) (sym at.0) ∙ ap (λ j. order_of d j) (sym at.1)

-- a row of a destination has a place of it
place_on_line : (d : Destination) (row : Row) → is_same d row.destination ≡ true → IsPlace row.destination row.place → IsPlace d row.place
place_on_line d row same is = subst (λ (e : Destination). IsPlace e row.place) (sym (same_is d row.destination same)) is

order_on_line : (d : Destination) (row : Row) → is_same d row.destination ≡ true → IsPlace row.destination row.place → row_order row + 1 ≡ order_of d 1 + row.place
order_on_line d row same is =
    ap (λ e. order_of e row.place + 1) (sym (same_is d row.destination same)) ∙ place_order d row.place (place_on_line d row same is)

-- rows that rise from a place on have no source for one before it
none_before : (least : ℕ) (rows : List Row) (d : Destination) (i : ℕ) → RiseFrom least rows → order_of d i < least → source_in rows d i ≡ None
none_before least [] d i rise less = refl
none_before least (row ∷ rest) d i rise less = go (is_row_of d i row) refl (none_before (row_order row + 1) rest d i rise.2 (omega (arith, rise.0, less)))
  where
    go : (b : Bool) → is_row_of d i row ≡ b → source_in rest d i ≡ None → source_in (row ∷ rest) d i ≡ None
    go true e more = absurd (let at = order_at d i row e in omega (arith, at, less, rise.0))
    go false e more = rw e more

row_here : (d : Destination) (i : ℕ) (row : Row) (rest : List Row) → is_same d row.destination ≡ true → i ≡ row.place → source_in (row ∷ rest) d i ≡ Some row.source
row_here d i row rest same at =
    let e : is_row_of d i row ≡ true = and_from (is_same d row.destination) (eqb i row.place) same (eq-eqb i row.place at) in
    rw e refl

skipped : (row : Row) (rest : List Row) (d : Destination) (i : ℕ) → row_order row + 1 ≤ order_of d i → source_in (row ∷ rest) d i ≡ source_in rest d i
skipped row rest d i high = go (is_row_of d i row) refl
  where
    go : (b : Bool) → is_row_of d i row ≡ b → source_in (row ∷ rest) d i ≡ source_in rest d i
    go true e = absurd (let at = order_at d i row e in omega (arith, at, high))
    go false e = rw e refl

-- ---- sources that are those of rows, at the places from one on

record AreFrom (f : Destination → ℕ → Option Source) (from : ℕ) (rows : List Row) : Type 0 where
  pub rise : RiseFrom from rows
  pub are : (d : Destination) (i : ℕ) → IsPlace d i → from ≤ order_of d i → f d i ≡ source_in rows d i

none_more : (f : Destination → ℕ → Option Source) (from more : ℕ) → from ≤ more → AreFrom f from [] → AreFrom f more []
none_more f from more low s = record { rise = tt; are = λ d i is high. s.are d i is (omega (arith, low, high)) }

from_there : (f : Destination → ℕ → Option Source) (from more : ℕ) (row : Row) (rest : List Row) → from ≤ more → more ≤ row_order row → AreFrom f from (row ∷ rest) → AreFrom f more (row ∷ rest)
from_there f from more row rest low high s = record {
  rise = (high, s.rise.1, s.rise.2);
  are = λ d i is far. s.are d i is (omega (arith, low, far));
}

next_rows : (f : Destination → ℕ → Option Source) (from : ℕ) (row : Row) (rest : List Row) → AreFrom f from (row ∷ rest) → AreFrom f (row_order row + 1) rest
next_rows f from row rest s = record {
  rise = s.rise.2;
  are = λ d i is far. let low = s.rise.0 in s.are d i is (omega (arith, low, far)) ∙ skipped row rest d i far;
}

-- the rows behind those of a destination
abbrev behind : Destination → List Row → List Row
behind d [] = []
behind d (row ∷ rest) = if is_same d row.destination then behind d rest else row ∷ rest

behind_are : (f : Destination → ℕ → Option Source) (d : Destination) (rows : List Row) (from : ℕ) → IsDestination d → order_of d 1 ≤ from → from ≤ order_of d 1 + most_words_to d → AreFrom f from rows
    → AreFrom f (order_of d 1 + most_words_to d) (behind d rows)
behind_are f d [] from is low high s = none_more f from (order_of d 1 + most_words_to d) high s
behind_are f d (row ∷ rest) from is low high s = go (is_same d row.destination) refl (λ next above below more. behind_are f d rest next is above below more)
  where
    go : (b : Bool) → is_same d row.destination ≡ b
        → ((next : ℕ) → order_of d 1 ≤ next → next ≤ order_of d 1 + most_words_to d → AreFrom f next rest → AreFrom f (order_of d 1 + most_words_to d) (behind d rest))
        → AreFrom f (order_of d 1 + most_words_to d) (behind d (row ∷ rest))
    go true same more =
        let place = place_on_line d row same s.rise.1 in
        let order = order_on_line d row same s.rise.1 in
        let first = s.rise.0 in
        rw same (more (row_order row + 1) (omega (arith, low, first)) (omega (arith, order, place.high)) (next_rows f from row rest s))
    go false other more =
        let first = s.rise.0 in
        rw other (from_there f from (order_of d 1 + most_words_to d) row rest high (outside d row.destination row.place is s.rise.1 (omega (arith, low, first)) other) s)

none_on_line : (f : Destination → ℕ → Option Source) (d : Destination) (q : ℕ) (rows : List Row) → IsDestination d → AreFrom f (order_of d 1 + q) rows → RiseFrom (order_of d 1 + most_words_to d) rows
    → (i : ℕ) → q < i → i ≤ most_words_to d → f d i ≡ None
none_on_line f d q rows is s rise i low high =
    let there : IsPlace d i = record { destination = is; low = omega (arith, low); high = high } in
    let order = place_order d i there in
    s.are d i there (omega (arith, order, low)) ∙ none_before (order_of d 1 + most_words_to d) rows d i rise (omega (arith, order, high))

-- rows of which the first is not of a destination
other_rows : (f : Destination → ℕ → Option Source) (d : Destination) (from : ℕ) (row : Row) (rest : List Row) → IsDestination d → order_of d 1 ≤ from → AreFrom f from (row ∷ rest) → is_same d row.destination ≡ false
    → order_of d 1 + most_words_to d ≤ row_order row
other_rows f d from row rest is low s other =
    let first = s.rise.0 in
    outside d row.destination row.place is s.rise.1 (omega (arith, low, first)) other

-- ---- the places of a line

no_source : (g : ℕ → Option Source) (q n : ℕ) → ((i : ℕ) → q < i → i ≤ q + n → g i ≡ None) → up_to_last (map g (range_with_len (q + 1) n)) ≡ []
no_source g q zero none = refl
no_source g q (suc n) none =
    let here : g (q + 1) ≡ None = none (q + 1) (omega arith) (omega arith) in
    let more : up_to_last (map g (range_with_len (q + 1 + 1) n)) ≡ [] = no_source g (q + 1) n (λ i low high. none i (omega (arith, low)) (omega (arith, high))) in
    rw (here, more) refl

kept_here : (v : Option Source) (s : Source) (xs : List (Option Source)) → v ≡ Some s → kept_in_front v xs ≡ Some s ∷ xs
kept_here v s [] e = rw e refl
kept_here v s (x ∷ xs) e = rw e refl

kept_more : (v y : Option Source) (ys xs : List (Option Source)) → xs ≡ y ∷ ys → kept_in_front v xs ≡ v ∷ xs
kept_more None y ys xs e = rw e refl
kept_more (Some s) y ys xs e = rw e refl

abbrev HasSome : List (Option Source) → Type 0
HasSome xs = (y : Option Source) × (ys : List (Option Source)) × (xs ≡ y ∷ ys)

some_source : (g : ℕ → Option Source) (q n k : ℕ) (s : Source) → q < k → k ≤ q + n → g k ≡ Some s → HasSome (up_to_last (map g (range_with_len (q + 1) n)))
some_source g q zero k s low high e = absurd (omega (arith, low, high))
some_source g q (suc n) k s low high e = go (nat_le k (q + 1)) refl (λ above. some_source g (q + 1) n k s above (omega (arith, high)) e)
  where
    go : (b : Bool) → nat_le k (q + 1) ≡ b → (q + 1 < k → HasSome (up_to_last (map g (range_with_len (q + 1 + 1) n)))) → HasSome (up_to_last (map g (range_with_len (q + 1) (suc n))))
    go true h more =
        let place = leb-true k (q + 1) h in
        let at : q + 1 ≡ k = omega (arith, place, low) in
        let here : g (q + 1) ≡ Some s = ap g at ∙ e in
        (Some s, up_to_last (map g (range_with_len (q + 1 + 1) n)), kept_here (g (q + 1)) s (up_to_last (map g (range_with_len (q + 1 + 1) n))) here)
    go false h more =
        let rest = more (leb-false k (q + 1) h) in
        (g (q + 1), up_to_last (map g (range_with_len (q + 1 + 1) n)), kept_more (g (q + 1)) rest.0 rest.1 (up_to_last (map g (range_with_len (q + 1 + 1) n))) rest.2)

-- what stands on a line behind its first places, and below it
abbrev line_rest : Destination → ℕ → List Row → Text
line_rest d next [] = codes "\n"
line_rest d next (row ∷ rest) =
    if is_same d row.destination then (dots (row.place - next) ++ (source_text row.source ++ line_rest d (row.place + 1) rest))
    else (codes "\n" ++ rows_text None (row ∷ rest))

rows_are : (other : Row) (rows : List Row) → rows_text (Some other) rows ≡ line_rest other.destination (other.place + 1) rows
rows_are other [] = refl
rows_are other (row ∷ rest) = go (is_same other.destination row.destination) refl (rows_are row rest)
  where
    go : (b : Bool) → is_same other.destination row.destination ≡ b → rows_text (Some row) rest ≡ line_rest row.destination (row.place + 1) rest
        → rows_text (Some other) (row ∷ rest) ≡ line_rest other.destination (other.place + 1) (row ∷ rest)
    go true same more =
        let e = same_is other.destination row.destination same in
        let count : row.place - other.place - 1 ≡ row.place - (other.place + 1) = omega arith in
        rw (same, more) (append_assoc (dots (row.place - other.place - 1)) (source_text row.source) (line_rest row.destination (row.place + 1) rest)
        ∙ ap (λ n. dots n ++ (source_text row.source ++ line_rest row.destination (row.place + 1) rest)) count
        ∙ ap (λ x. dots (row.place - (other.place + 1)) ++ (source_text row.source ++ line_rest x (row.place + 1) rest)) (sym e))
    go false differs more = rw differs refl

abbrev ArePlaces : (Destination → ℕ → Option Source) → Destination → ℕ → ℕ → List Row → Type 0
ArePlaces f d q n rows = flat_map place_text (up_to_last (map (f d) (range_with_len (q + 1) n))) ++ (codes "\n" ++ rows_text None (behind d rows)) ≡ line_rest d (q + 1) rows

-- the first row stands at the next place
at_place : (f : Destination → ℕ → Option Source) (d : Destination) (q n : ℕ) (row : Row) (rest : List Row) → is_same d row.destination ≡ true → q + 1 ≡ row.place → f d (q + 1) ≡ Some row.source → ArePlaces f d (q + 1) n rest
    → ArePlaces f d q (suc n) (row ∷ rest)
at_place f d q n row rest same at here more =
    let none : row.place - (q + 1) ≡ 0 = omega (arith, at) in
    rw (kept_here (f d (q + 1)) row.source (up_to_last (map (f d) (range_with_len (q + 1 + 1) n))) here, same, none, ← at)
    (append_assoc (source_text row.source) (flat_map place_text (up_to_last (map (f d) (range_with_len (q + 1 + 1) n)))) (codes "\n" ++ rows_text None (behind d rest))
    ∙ ap (λ (t : Text). source_text row.source ++ t) more)

-- it stands behind it
past_place : (f : Destination → ℕ → Option Source) (d : Destination) (q n : ℕ) (row : Row) (rest : List Row) → is_same d row.destination ≡ true → q + 1 < row.place → f d (q + 1) ≡ None
    → HasSome (up_to_last (map (f d) (range_with_len (q + 1 + 1) n))) → ArePlaces f d (q + 1) n (row ∷ rest) → ArePlaces f d q (suc n) (row ∷ rest)
past_place f d q n row rest same less here some more =
    let one : row.place - (q + 1) ≡ suc (row.place - (q + 1 + 1)) = omega (arith, less) in
    let on = rw same at more in
    rw (kept_more (f d (q + 1)) some.0 some.1 (up_to_last (map (f d) (range_with_len (q + 1 + 1) n))) some.2, here, same, one) (ap (λ (t : Text). codes " ...." ++ t) on)

places_are : (f : Destination → ℕ → Option Source) (d : Destination) (q n : ℕ) (rows : List Row) → IsDestination d → q + n ≡ most_words_to d → AreFrom f (order_of d 1 + q) rows → ArePlaces f d q n rows
places_are f d q zero [] is e s = refl
places_are f d q zero (row ∷ rest) is e s = go (is_same d row.destination) refl
  where
    go : (b : Bool) → is_same d row.destination ≡ b → ArePlaces f d q zero (row ∷ rest)
    go true same =
        let place = place_on_line d row same s.rise.1 in
        let order = order_on_line d row same s.rise.1 in
        let first = s.rise.0 in
        absurd (omega (arith, e, place.high, order, first))
    go false other = rw other refl
places_are f d q (suc n) [] is e s =
    rw (no_source (f d) q (suc n) (λ i low high. none_on_line f d q [] is s tt i low (omega (arith, e, high)))) refl
places_are f d q (suc n) (row ∷ rest) is e s = go (is_same d row.destination) refl (λ rows more. places_are f d (q + 1) n rows is (omega (arith, e)) more)
  where
    there : IsPlace d (q + 1)
    there = record { destination = is; low = omega arith; high = omega (arith, e) }

    here : order_of d (q + 1) ≡ order_of d 1 + q
    here = omega (arith, place_order d (q + 1) there)

    go : (b : Bool) → is_same d row.destination ≡ b → ((rows : List Row) → AreFrom f (order_of d 1 + (q + 1)) rows → ArePlaces f d (q + 1) n rows) → ArePlaces f d q (suc n) (row ∷ rest)
    go true same more = by_place (nat_le row.place (q + 1)) refl
      where
        place : IsPlace d row.place
        place = place_on_line d row same s.rise.1

        order : row_order row + 1 ≡ order_of d 1 + row.place
        order = order_on_line d row same s.rise.1

        first : order_of d 1 + q ≤ row_order row
        first = s.rise.0

        by_place : (b : Bool) → nat_le row.place (q + 1) ≡ b → ArePlaces f d q (suc n) (row ∷ rest)
        by_place true h =
            let low = leb-true row.place (q + 1) h in
            let at : q + 1 ≡ row.place = omega (arith, low, order, first) in
            let from : row_order row + 1 ≡ order_of d 1 + (q + 1) = omega (arith, order, at) in
            at_place f d q n row rest same at (s.are d (q + 1) there (omega (arith, here)) ∙ row_here d (q + 1) row rest same at)
            (more rest (subst (λ k. AreFrom f k rest) from (next_rows f (order_of d 1 + q) row rest s)))
        by_place false h =
            let less = leb-false row.place (q + 1) h in
            let none : source_in (row ∷ rest) d (q + 1) ≡ None = none_before (row_order row) (row ∷ rest) d (q + 1) (omega arith, s.rise.1, s.rise.2) (omega (arith, here, order, less)) in
            let own : f d row.place ≡ Some row.source = s.are d row.place place (omega (arith, order, first, place_order d row.place place)) ∙ row_here d row.place row rest same refl in
            past_place f d q n row rest same less (s.are d (q + 1) there (omega (arith, here)) ∙ none)
            (some_source (f d) (q + 1) n row.place row.source less (omega (arith, place.high, e)) own)
            (more (row ∷ rest) (from_there f (order_of d 1 + q) (order_of d 1 + (q + 1)) row rest (omega arith) (omega (arith, order, less)) s))
    go false other more =
        let high = other_rows f d (order_of d 1 + q) row rest is (omega arith) s other in
        rw (no_source (f d) q (suc n) (λ i low far. none_on_line f d q (row ∷ rest) is s (high, s.rise.1, s.rise.2) i low (omega (arith, e, far))), other) refl

-- ---- the lines

line_is : (d : Destination) (y : Option Source) (ys xs : List (Option Source)) → xs ≡ y ∷ ys → line_of d xs ≡ codes "controller " ++ (destination_text d ++ (flat_map place_text xs ++ codes "\n"))
line_is d y ys xs e = rw e refl

-- the begin of a line
begun : (d : Destination) (row : Row) (rest : List Row) → is_same d row.destination ≡ true → codes "controller " ++ (destination_text d ++ line_rest d 1 (row ∷ rest)) ≡ rows_text None (row ∷ rest)
begun d row rest same =
    let e = same_is d row.destination same in
    let name = destination_text d in
    let source = source_text row.source in
    let more = line_rest d (row.place + 1) rest in
    let count : row.place - 1 ≡ row.place - 0 - 1 = omega arith in
    rw (same, rows_are row rest, ← e)
    (ap (λ n. codes "controller " ++ (name ++ (dots n ++ (source ++ more)))) count
    ∙ sym (ap (λ (t : Text). codes "controller " ++ t) (append_assoc name (dots (row.place - 0 - 1) ++ source) more ∙ ap (λ (t : Text). name ++ t) (append_assoc (dots (row.place - 0 - 1)) source more))))

-- a line, and what stands below it
joined : (name places below : Text) → (codes "controller " ++ (name ++ (places ++ codes "\n"))) ++ below ≡ codes "controller " ++ (name ++ (places ++ (codes "\n" ++ below)))
joined name places below =
    ap (λ (t : Text). codes "controller " ++ t) (append_assoc name (places ++ codes "\n") below ∙ ap (λ (t : Text). name ++ t) (append_assoc places (codes "\n") below))

lines_are : (f : Destination → ℕ → Option Source) (ds : List Destination) (from : ℕ) (rows : List Row) → Follow from ds all_places → AreFrom f from rows → flat_map (destination_line f) ds ≡ rows_text None rows
lines_are f [] from [] follow s = refl
lines_are f [] from (row ∷ rest) follow s =
    let first = s.rise.0 in
    absurd (omega (arith, follow, first, order_high row.destination row.place s.rise.1))
lines_are f (d ∷ ds) from [] follow s =
    let is = follow.1 in
    let s0 : AreFrom f (order_of d 1 + 0) [] = none_more f from (order_of d 1 + 0) (omega (arith, follow.0)) s in
    rw (no_source (f d) 0 (most_words_to d) (λ i low high. none_on_line f d 0 [] is s0 tt i low (omega (arith, high))))
    (lines_are f ds (from + most_words_to d) [] follow.2 (none_more f from (from + most_words_to d) (omega arith) s))
lines_are f (d ∷ ds) from (row ∷ rest) follow s = go (is_same d row.destination) refl (λ rows more. lines_are f ds (from + most_words_to d) rows follow.2 more)
  where
    is : IsDestination d
    is = follow.1

    at : order_of d 1 ≡ from
    at = follow.0

    s0 : AreFrom f (order_of d 1 + 0) (row ∷ rest)
    s0 = let here : from ≡ order_of d 1 + 0 = omega (arith, at) in subst (λ n. AreFrom f n (row ∷ rest)) here s

    end : order_of d 1 + most_words_to d ≡ from + most_words_to d
    end = ap (λ n. n + most_words_to d) at

    go : (b : Bool) → is_same d row.destination ≡ b → ((rows : List Row) → AreFrom f (from + most_words_to d) rows → flat_map (destination_line f) ds ≡ rows_text None rows)
        → flat_map (destination_line f) (d ∷ ds) ≡ rows_text None (row ∷ rest)
    go true same more =
        let place = place_on_line d row same s.rise.1 in
        let order = order_on_line d row same s.rise.1 in
        let own : f d row.place ≡ Some row.source = s0.are d row.place place (omega (arith, place.low, place_order d row.place place)) ∙ row_here d row.place row rest same refl in
        let some = some_source (f d) 0 (most_words_to d) row.place row.source (omega (arith, place.low)) (omega (arith, place.high)) own in
        let xs = up_to_last (map (f d) (range_with_len 1 (most_words_to d))) in
        let below = more (behind d (row ∷ rest)) (subst (λ n. AreFrom f n (behind d (row ∷ rest))) end (behind_are f d (row ∷ rest) from is (omega (arith, at)) (omega (arith, at)) s)) in
        ap (λ (t : Text). t ++ flat_map (destination_line f) ds) (line_is d some.0 some.1 xs some.2)
        ∙ joined (destination_text d) (flat_map place_text xs) (flat_map (destination_line f) ds)
        ∙ ap (λ (t : Text). codes "controller " ++ (destination_text d ++ (flat_map place_text xs ++ (codes "\n" ++ t)))) below
        ∙ ap (λ (t : Text). codes "controller " ++ (destination_text d ++ t)) (places_are f d 0 (most_words_to d) (row ∷ rest) is (omega arith) s0)
        ∙ begun d row rest same
    go false other more =
        let high = other_rows f d from row rest is (omega (arith, at)) s other in
        rw (no_source (f d) 0 (most_words_to d) (λ i low far. none_on_line f d 0 (row ∷ rest) is s0 (high, s.rise.1, s.rise.2) i low (omega (arith, far))))
        (more (row ∷ rest) (from_there f from (from + most_words_to d) row rest (omega arith) (omega (arith, high, at)) s))

sources_are : (f : Destination → ℕ → Option Source) (rows : List Row) → AreRows rows → ((d : Destination) (i : ℕ) → IsPlace d i → source_in rows d i ≡ f d i) → sources_text f ≡ rows_text None rows
unfolding sources_text
sources_are f rows rise same =
    lines_are f all_destinations 0 rows run_of_all_destinations.follow (record { rise = rise; are = λ d i is low. sym (same d i is) })

pub controller_is : (queued : ℕ) (f : Destination → ℕ → Option Source) (rows : List Row) → AreRows rows → ((d : Destination) (i : ℕ) → IsPlace d i → source_in rows d i ≡ f d i)
    → controller_text queued f ≡ controller_lines queued (rows_text None rows)
unfolding controller_text
controller_is queued f rows rise same = ap (λ t. controller_lines queued t) (sources_are f rows rise same)
