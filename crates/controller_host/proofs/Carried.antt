-- A message with the words of its sources, one row after another.
use Rattle.std.proofs.Common.{◌≡◌, ℕ, zero, suc, ◌+◌, ◌-◌, ◌<◌, ◌≤◌, ◌≢◌, List, [], ◌∷◌, length, get_or, take, refl, sym, ap, ◌∙◌, subst, arith}
use Rattle.std.specs.Prelude.{Bool, true, false, ◌==◌, Option, Some, None, slice_set}
use Rattle.std.specs.List.{AllByRecursion}
use Rattle.std.proofs.lemmas.Bool.{eq-eqb, ne_eqb}
use Rattle.std.proofs.lemmas.List.{append-nil, take_more}
use Rattle.mil_message.specs.declared.forms.Form.{Form}
use Rattle.mil_message.specs.declared.forms.Form.TheVariants.{ToTerminal, FromTerminal, Between, Mode, ModeFrom, ModeTo}
use Rattle.mil_message.specs.declared.forms.Form.TheVariants.{ToAll, BetweenAll, ModeAll, ModeAllTo}
use Rattle.mil_message.specs.Forms.{data_words, with_data_words}
use Rattle.controller_host.specs.declared.destinations.Destination.{Destination}
use Rattle.controller_host.specs.declared.sources.Row.{Row}
use Rattle.controller_host.specs.declared.sources.Source.{Source}
use Rattle.controller_host.specs.Destinations.{is_same, destination_of, carries, IsPlace}
use Rattle.controller_host.specs.Sources.{word_of, sourced, sourced_words, source_in, with_source, row_order, RiseFrom}
use Rattle.controller_host.proofs.Rising.{no_row, same_is, one_more, place_of}

-- ---- words of sources

pub as_many : (s : ℕ → Option Source) (from : ℕ) (ws : List ℕ) → length (sourced_words s from ws) ≡ length ws
as_many s from [] = refl
as_many s from (w ∷ ws) = omega (arith, as_many s (from + 1) ws)

-- sources that are the same at the places of the words
same_words : (s t : ℕ → Option Source) (from : ℕ) (ws : List ℕ) → ((p : ℕ) → from ≤ p → p < from + length ws → t p ≡ s p) → sourced_words t from ws ≡ sourced_words s from ws
same_words s t from [] same = refl
same_words s t from (w ∷ ws) same =
    let head = same from (omega arith) (omega arith) in
    let tail = same_words s t (from + 1) ws (λ p low high. same p (omega arith) (omega arith)) in
    rw (head, tail) refl

-- one source more
one_word : (s t : ℕ → Option Source) (place : ℕ) (source : Source) (from k : ℕ) (ws : List ℕ) → from + k ≡ place → k < length ws
    → t place ≡ Some source → ((p : ℕ) → p ≢ place → t p ≡ s p) → sourced_words t from ws ≡ slice_set (sourced_words s from ws) k (word_of source)
one_word s t place source from k [] at less here other = absurd (omega (arith, less))
one_word s t place source from zero (w ∷ ws) at less here other =
    let first : from ≡ place = omega (arith, at) in
    let head : t from ≡ Some source = rw first here in
    let tail = same_words s t (from + 1) ws (λ p low high. other p (omega arith)) in
    rw (head, tail) refl
one_word s t place source from (suc k) (w ∷ ws) at less here other =
    let head : t from ≡ s from = other from (omega (arith, at)) in
    let tail = one_word s t place source (from + 1) k ws (omega (arith, at)) (omega (arith, less)) here other in
    rw (head, tail) refl

no_words : (d : Destination) (from : ℕ) (ws : List ℕ) → sourced_words (source_in [] d) from ws ≡ ws
no_words d from [] = refl
no_words d from (w ∷ ws) = ap (λ xs. w ∷ xs) (no_words d (from + 1) ws)

-- ---- the words of a message

own_words : (form : Form) → with_data_words (data_words form) form ≡ form
own_words (ToTerminal a s ws) = refl
own_words (FromTerminal a s n) = refl
own_words (Between a s b t n) = refl
own_words (Mode a s c) = refl
own_words (ModeFrom a s c) = refl
own_words (ModeTo a s c w) = refl
own_words (ToAll s ws) = refl
own_words (BetweenAll a s t n) = refl
own_words (ModeAll s c) = refl
own_words (ModeAllTo s c w) = refl

-- a data word in the place of one, twice
put_again : (d : Destination) (form : Form) (ws : List ℕ) (k w : ℕ) → destination_of form ≡ Some d → length ws ≡ length (data_words form)
    → with_data_words (slice_set (data_words (with_data_words ws form)) k w) (with_data_words ws form) ≡ with_data_words (slice_set ws k w) form
put_again d (ToTerminal a s own) ws k w is many = refl
put_again d (ToAll s own) ws k w is many = refl
put_again d (ModeTo a s c own) [] k w is many = absurd (omega (arith, many))
put_again d (ModeTo a s c own) (x ∷ []) zero w is many = refl
put_again d (ModeTo a s c own) (x ∷ []) (suc k) w is many = refl
put_again d (ModeTo a s c own) (x ∷ (y ∷ ws)) k w is many = absurd (omega (arith, many))
put_again d (ModeAllTo s c own) [] k w is many = absurd (omega (arith, many))
put_again d (ModeAllTo s c own) (x ∷ []) zero w is many = refl
put_again d (ModeAllTo s c own) (x ∷ []) (suc k) w is many = refl
put_again d (ModeAllTo s c own) (x ∷ (y ∷ ws)) k w is many = absurd (omega (arith, many))
put_again d (FromTerminal a s n) ws k w is many = absurd cc
put_again d (Between a s b t n) ws k w is many = absurd cc
put_again d (Mode a s c) ws k w is many = absurd cc
put_again d (ModeFrom a s c) ws k w is many = absurd cc
put_again d (BetweenAll a s t n) ws k w is many = absurd cc
put_again d (ModeAll s c) ws k w is many = absurd cc

-- as many as these
same_count : (d : Destination) (form : Form) (ws : List ℕ) → destination_of form ≡ Some d → length ws ≡ length (data_words form)
    → length (data_words (with_data_words ws form)) ≡ length (data_words form)
same_count d (ToTerminal a s own) ws is many = many
same_count d (ToAll s own) ws is many = many
same_count d (ModeTo a s c own) ws is many = refl
same_count d (ModeAllTo s c own) ws is many = refl
same_count d (FromTerminal a s n) ws is many = absurd cc
same_count d (Between a s b t n) ws is many = absurd cc
same_count d (Mode a s c) ws is many = absurd cc
same_count d (ModeFrom a s c) ws is many = absurd cc
same_count d (BetweenAll a s t n) ws is many = absurd cc
same_count d (ModeAll s c) ws is many = absurd cc

-- a message without data words of the controller's, and one with some
pub none_sourced : (s : Destination → ℕ → Option Source) (form : Form) → destination_of form ≡ None → sourced s form ≡ form
unfolding sourced
none_sourced s form is = rw is refl

pub some_sourced : (rows : List Row) (d : Destination) (form : Form) → destination_of form ≡ Some d → sourced (source_in rows) form ≡ with_data_words (sourced_words (source_in rows d) 1 (data_words form)) form
unfolding sourced
some_sourced rows d form is = rw is refl

-- ---- row after row

-- a message with the words of some rows
abbrev pub with_rows : List Row → Destination → Form → Form
with_rows rows d form = with_data_words (sourced_words (source_in rows d) 1 (data_words form)) form

pub no_rows : (d : Destination) (form : Form) → with_rows [] d form ≡ form
no_rows d form = ap (λ ws. with_data_words ws form) (no_words d 1 (data_words form)) ∙ own_words form

pub rows_count : (rows : List Row) (d : Destination) (form : Form) → destination_of form ≡ Some d
    → length (data_words (with_rows rows d form)) ≡ length (data_words form)
rows_count rows d form is = same_count d form _ is (as_many (source_in rows d) 1 (data_words form))

at_least : (least : ℕ) (rows : List Row) (i : ℕ) → RiseFrom least rows → i < length rows → least ≤ row_order (get_or rows i no_row)
at_least least [] i rise less = absurd (omega (arith, less))
at_least least (x ∷ xs) zero rise less = rise.0
at_least least (x ∷ xs) (suc i) rise less = omega (arith, rise.0, at_least (row_order x + 1) xs i rise.2 (omega (arith, less)))

-- the rows in front of one are below it
below_it : (least : ℕ) (rows : List Row) (i : ℕ) → RiseFrom least rows → i < length rows → AllByRecursion (λ x. row_order x < row_order (get_or rows i no_row)) (take i rows)
below_it least [] i rise less = absurd (omega (arith, less))
below_it least (x ∷ xs) zero rise less = tt
below_it least (x ∷ xs) (suc i) rise less =
    (omega (arith, at_least (row_order x + 1) xs i rise.2 (omega (arith, less))), below_it (row_order x + 1) xs i rise.2 (omega (arith, less)))

-- the source of a place in one row more
last_row : (rows : List Row) (i : ℕ) (d : Destination) (p : ℕ) → RiseFrom 0 rows → i < length rows
    → source_in (take (i + 1) rows) d p ≡ with_source (get_or rows i no_row) (source_in (take i rows) d p) d p
last_row rows i d p rise less =
    let row = get_or rows i no_row in
    ap (λ rs. source_in rs d p) (take_more rows i no_row less)
    ∙ one_more row (place_of 0 rows i no_row rise less) (take i rows) [] d p (below_it 0 rows i rise less)
    ∙ ap (λ rs. with_source row (source_in rs d p) d p) (append-nil (take i rows))

turned : (d e : Destination) → is_same e d ≡ true → is_same d e ≡ true
turned d e is = let same : e ≡ d = same_is e d is in cc

not_turned : (d e : Destination) → is_same e d ≡ false → is_same d e ≡ false
not_turned d e is = go (is_same d e) refl
  where
    go : (b : Bool) → is_same d e ≡ b → is_same d e ≡ false
    go false h = h
    go true h = let same : d ≡ e = same_is d e h in cc

-- a row whose word the message carries
pub row_carried : (rows : List Row) (i : ℕ) (d : Destination) (form : Form) → RiseFrom 0 rows → i < length rows → destination_of form ≡ Some d
    → is_same (get_or rows i no_row).destination d ≡ true → (get_or rows i no_row).place ≤ length (data_words form)
    → with_data_words (slice_set (data_words (with_rows (take i rows) d form)) ((get_or rows i no_row).place - 1) (word_of (get_or rows i no_row).source)) (with_rows (take i rows) d form)
    ≡ with_rows (take (i + 1) rows) d form
row_carried rows i d form rise less is same high =
    let row = get_or rows i no_row in
    let s = source_in (take i rows) d in
    let t = source_in (take (i + 1) rows) d in
    let place = place_of 0 rows i no_row rise less in
    let key = turned d row.destination same in
    let here : t row.place ≡ Some row.source =
    last_row rows i d row.place rise less ∙ (let at : (row.place == row.place) ≡ true = eq-eqb row.place row.place refl in rw (key, at) refl) in
    let other : (p : ℕ) → p ≢ row.place → t p ≡ s p =
    λ p ne. last_row rows i d p rise less ∙ (let at : (p == row.place) ≡ false = ne_eqb p row.place ne in rw (key, at) refl) in
    put_again d form (sourced_words s 1 (data_words form)) (row.place - 1) (word_of row.source) is (as_many s 1 (data_words form))
    ∙ ap (λ ws. with_data_words ws form) (sym (one_word s t row.place row.source 1 (row.place - 1) (data_words form) (omega (arith, place.low)) (omega (arith, place.low, high)) here other))

-- a row whose word it does not carry
pub row_left : (rows : List Row) (i : ℕ) (d : Destination) (form : Form) → RiseFrom 0 rows → i < length rows
    → (is_same (get_or rows i no_row).destination d ≡ true → length (data_words form) < (get_or rows i no_row).place)
    → with_rows (take i rows) d form ≡ with_rows (take (i + 1) rows) d form
row_left rows i d form rise less not =
    ap (λ ws. with_data_words ws form)
    (sym (same_words (source_in (take i rows) d) (source_in (take (i + 1) rows) d) 1 (data_words form) (λ p low high. last_row rows i d p rise less ∙ left p high)))
  where
    row : Row
    row = get_or rows i no_row

    left : (p : ℕ) → p < 1 + length (data_words form) → with_source row (source_in (take i rows) d p) d p ≡ source_in (take i rows) d p
    left p high = go (is_same row.destination d) refl
      where
        go : (b : Bool) → is_same row.destination d ≡ b → with_source row (source_in (take i rows) d p) d p ≡ source_in (take i rows) d p
        go true same =
            let far = not same in
            let at : (p == row.place) ≡ false = ne_eqb p row.place (λ e. omega arith) in
            let key = turned d row.destination same in
            rw (key, at) refl
        go false same = let key = not_turned d row.destination same in rw key refl

-- ---- the steps of a loop over the rows

-- a message, where the word of a row was put into it
abbrev pub with_word : Form → ℕ → ℕ → Form
with_word sent k word = with_data_words (slice_set (data_words sent) k word) sent

pub sent_on : (rows : List Row) (i : ℕ) (d : Destination) (form : Form) (row : Row) (sent new : Form) (k word : ℕ) → RiseFrom 0 rows → i < length rows
    → destination_of form ≡ Some d → get_or rows i no_row ≡ row → is_same row.destination d ≡ true → row.place ≤ length (data_words form)
    → sent ≡ with_rows (take i rows) d form → k ≡ row.place - 1 → word ≡ word_of row.source → new ≡ with_word sent k word → new ≡ with_rows (take (i + 1) rows) d form
sent_on rows i d form row sent new k word rise less is at same high was place source put =
    let same_there : is_same (get_or rows i no_row).destination d ≡ true = rw at same in
    let high_there : (get_or rows i no_row).place ≤ length (data_words form) = rw at high in
    put
    ∙ ap (λ s. with_word s k word) was
    ∙ ap (λ n. with_word (with_rows (take i rows) d form) n word) place
    ∙ ap (λ w. with_word (with_rows (take i rows) d form) (row.place - 1) w) source
    ∙ ap (λ (r : Row). with_word (with_rows (take i rows) d form) (r.place - 1) (word_of r.source)) (sym at)
    ∙ row_carried rows i d form rise less is same_there high_there

pub sent_same : (rows : List Row) (i : ℕ) (d : Destination) (form : Form) (row : Row) (sent new : Form) → RiseFrom 0 rows → i < length rows → get_or rows i no_row ≡ row
    → (is_same row.destination d ≡ true → length (data_words form) < row.place) → sent ≡ with_rows (take i rows) d form → new ≡ sent → new ≡ with_rows (take (i + 1) rows) d form
sent_same rows i d form row sent new rise less at not was keeps =
    keeps ∙ was
    ∙ row_left rows i d form rise less (λ same. let far = not (let there : is_same row.destination d ≡ true = rw (sym at) same in there) in rw at far)

-- the place of one of the rows
pub row_place : (rows : List Row) (i : ℕ) (row : Row) → RiseFrom 0 rows → i < length rows → get_or rows i no_row ≡ row → IsPlace row.destination row.place
row_place rows i row rise less at = subst (λ (r : Row). IsPlace r.destination r.place) at (place_of 0 rows i no_row rise less)

-- it has a data word there
pub word_there : (rows : List Row) (d : Destination) (form sent : Form) (words : List ℕ) (place k : ℕ) → destination_of form ≡ Some d → sent ≡ with_rows rows d form
    → words ≡ data_words form → 1 ≤ place → place ≤ length words → k ≡ place → k - 1 < length (data_words sent)
word_there rows d form sent words place k is was own low high e =
    let count = ap (λ (f : Form). length (data_words f)) was ∙ rows_count rows d form is in
    let many = ap length own in
    omega (arith, count, many, low, high, e)
