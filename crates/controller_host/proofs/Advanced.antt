-- Rows behind a message.
use Rattle.std.proofs.Common.{◌≡◌, ℕ, zero, suc, ◌+◌, ◌<◌, ◌≤◌, List, [], ◌∷◌, ◌++◌, length, get_or, take, drop, map, refl, sym, ap, ◌∙◌, arith}
use Rattle.std.specs.Prelude.{Bool, true, false, ◌&&◌, nat_le, Some, None, slice_set}
use Rattle.std.proofs.lemmas.Bool.{le-leb, lt-leb}
use Rattle.mil_message.specs.declared.forms.Form.{Form}
use Rattle.mil_message.specs.Forms.{data_words}
use Rattle.controller_host.specs.declared.destinations.Destination.{Destination}
use Rattle.controller_host.specs.declared.sources.Row.{Row}
use Rattle.controller_host.specs.Destinations.{is_same, destination_of, carries}
use Rattle.controller_host.specs.Sources.{advanced, advanced_by, row_order, RiseFrom}
use Rattle.controller_host.proofs.Rising.{no_row}

-- rows, those up to one of them behind the message
abbrev pub advanced_to : ℕ → Form → List Row → List Row
advanced_to i form rows = map (advanced_by form) (take i rows) ++ drop i rows

pub none_advanced : (form : Form) (rows : List Row) → advanced_to 0 form rows ≡ rows
none_advanced form [] = refl
none_advanced form (x ∷ xs) = refl

pub all_advanced : (form : Form) (rows : List Row) (i : ℕ) → length rows ≤ i → advanced_to i form rows ≡ map (advanced_by form) rows
all_advanced form [] zero past = refl
all_advanced form [] (suc i) past = refl
all_advanced form (x ∷ xs) zero past = absurd (omega (arith, past))
all_advanced form (x ∷ xs) (suc i) past = ap (λ rows. advanced_by form x ∷ rows) (all_advanced form xs i (omega (arith, past)))

pub advanced_count : (form : Form) (rows : List Row) (i : ℕ) → length (advanced_to i form rows) ≡ length rows
advanced_count form [] zero = refl
advanced_count form [] (suc i) = refl
advanced_count form (x ∷ xs) zero = refl
advanced_count form (x ∷ xs) (suc i) = omega (arith, advanced_count form xs i)

-- the next row is as it was
next_row : (form : Form) (rows : List Row) (i : ℕ) (d : Row) → i < length rows → get_or (advanced_to i form rows) i d ≡ get_or rows i no_row
next_row form [] i d less = absurd (omega (arith, less))
next_row form (x ∷ xs) zero d less = refl
next_row form (x ∷ xs) (suc i) d less = next_row form xs i d (omega (arith, less))

pub is_next : (form : Form) (rows now : List Row) (i : ℕ) (row : Row) → i < length rows → now ≡ advanced_to i form rows → row ≡ get_or now i row → get_or rows i no_row ≡ row
is_next form rows now i row less is at = sym (next_row form rows i row less) ∙ ap (λ rs. get_or rs i row) (sym is) ∙ sym at

-- one row more
put_next : (form : Form) (rows : List Row) (i : ℕ) → i < length rows
    → slice_set (advanced_to i form rows) i (advanced_by form (get_or rows i no_row)) ≡ advanced_to (suc i) form rows
put_next form [] i less = absurd (omega (arith, less))
put_next form (x ∷ []) zero less = refl
put_next form (x ∷ (y ∷ xs)) zero less = refl
put_next form (x ∷ xs) (suc i) less = ap (λ rows. advanced_by form x ∷ rows) (put_next form xs i (omega (arith, less)))

left_next : (form : Form) (rows : List Row) (i : ℕ) → i < length rows → advanced_by form (get_or rows i no_row) ≡ get_or rows i no_row
    → advanced_to i form rows ≡ advanced_to (suc i) form rows
left_next form [] i less same = absurd (omega (arith, less))
left_next form (x ∷ []) zero less same = ap (λ y. y ∷ []) (sym same)
left_next form (x ∷ (y ∷ xs)) zero less same = ap (λ z. z ∷ (y ∷ xs)) (sym same)
left_next form (x ∷ xs) (suc i) less same = ap (λ rows. advanced_by form x ∷ rows) (left_next form xs i (omega (arith, less)) same)

one_on : (form : Form) (rows : List Row) (i : ℕ) → advanced_to (suc i) form rows ≡ advanced_to (i + 1) form rows
one_on form rows i = let on : suc i ≡ i + 1 = omega arith in ap (λ n. advanced_to n form rows) on

carried_by : (d e : Destination) (place : ℕ) (form : Form) → destination_of form ≡ Some d → carries e place form ≡ is_same e d && nat_le place (length (data_words form))
carried_by d e place form is = rw is refl

-- a row whose word the message carries
pub row_advanced : (form : Form) (rows : List Row) (i : ℕ) (row new : Row) → i < length rows → get_or rows i no_row ≡ row
    → carries row.destination row.place form ≡ true → new ≡ record { destination = row.destination; place = row.place; source = advanced 1 row.source }
    → slice_set (advanced_to i form rows) i new ≡ advanced_to (i + 1) form rows
row_advanced form rows i row new less at is e =
    let new_is : new ≡ advanced_by form (get_or rows i no_row) = rw (at, is) e in
    ap (λ x. slice_set (advanced_to i form rows) i x) new_is ∙ put_next form rows i less ∙ one_on form rows i

-- one whose word it does not carry
pub row_same : (form : Form) (rows : List Row) (i : ℕ) (row : Row) → i < length rows → get_or rows i no_row ≡ row
    → carries row.destination row.place form ≡ false → advanced_to i form rows ≡ advanced_to (i + 1) form rows
row_same form rows i row less at is =
    let same : advanced_by form (get_or rows i no_row) ≡ get_or rows i no_row = rw (at, is) refl in
    left_next form rows i less same ∙ one_on form rows i

-- a message without data words of the controller's
pub all_same : (form : Form) (rows : List Row) → destination_of form ≡ None → map (advanced_by form) rows ≡ rows
all_same form [] is = refl
all_same form (x ∷ xs) is =
    let head : advanced_by form x ≡ x = rw is refl in
    let tail = all_same form xs is in
    rw (head, tail) refl

-- they rise as before
pub rise_on : (form : Form) (least : ℕ) (rows : List Row) → RiseFrom least rows → RiseFrom least (map (advanced_by form) rows)
rise_on form least [] rise = tt
rise_on form least (x ∷ xs) rise = go (carries x.destination x.place form) refl (rise_on form (row_order x + 1) xs rise.2)
  where
    go : (b : Bool) → carries x.destination x.place form ≡ b → RiseFrom (row_order x + 1) (map (advanced_by form) xs) → RiseFrom least (map (advanced_by form) (x ∷ xs))
    go true e more = rw e (rise.0, rise.1, more)
    go false e more = rw e (rise.0, rise.1, more)

-- ---- the steps of a loop over the rows

pub rows_on : (form : Form) (d : Destination) (rows now new : List Row) (i : ℕ) (row kept put : Row) → destination_of form ≡ Some d → i < length rows → now ≡ advanced_to i form rows
    → get_or rows i no_row ≡ row → kept ≡ get_or now i kept → is_same row.destination d ≡ true → row.place ≤ length (data_words form)
    → put ≡ record { destination = kept.destination; place = kept.place; source = advanced 1 row.source } → new ≡ slice_set now i put → new ≡ advanced_to (i + 1) form rows
rows_on form d rows now new i row kept put is less was at kept_at same high e set =
    let alike : kept ≡ row = sym (is_next form rows now i kept less was kept_at) ∙ at in
    let low : nat_le row.place (length (data_words form)) ≡ true = le-leb row.place (length (data_words form)) high in
    let carried : carries row.destination row.place form ≡ true = carried_by d row.destination row.place form is ∙ (rw (same, low) refl) in
    let new_row : put ≡ record { destination = row.destination; place = row.place; source = advanced 1 row.source } =
    e ∙ ap (λ (k : Row). record { destination = k.destination; place = k.place; source = advanced 1 row.source }) alike in
    set ∙ ap (λ rs. slice_set rs i put) was ∙ row_advanced form rows i row put less at carried new_row

pub rows_same : (form : Form) (d : Destination) (rows now new : List Row) (i : ℕ) (row : Row) → destination_of form ≡ Some d → i < length rows → now ≡ advanced_to i form rows
    → get_or rows i no_row ≡ row → (is_same row.destination d ≡ true → length (data_words form) < row.place) → new ≡ now → new ≡ advanced_to (i + 1) form rows
rows_same form d rows now new i row is less was at not keeps =
    keeps ∙ was ∙ row_same form rows i row less at (carried_by d row.destination row.place form is ∙ go (is_same row.destination d) refl)
  where
    go : (b : Bool) → is_same row.destination d ≡ b → (is_same row.destination d && nat_le row.place (length (data_words form))) ≡ false
    go true same = let far : nat_le row.place (length (data_words form)) ≡ false = lt-leb row.place (length (data_words form)) (not same) in rw (same, far) refl
    go false same = rw same refl
