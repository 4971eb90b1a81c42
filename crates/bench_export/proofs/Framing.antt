-- Columns that were put, one behind the other.
use Rattle.std.proofs.Common.{◌≡◌, ℕ, ◌+◌, ◌/◌, ◌%◌, Bool, List, [], ◌∷◌, ◌++◌, sym, ap, ◌∙◌, append_assoc, add-one}
use Rattle.std.specs.Prelude.{codes, decimal}
use Rattle.std.proofs.lemmas.List.{append-nil}
use Rattle.ch11_layout.specs.Stamps.{Recorded}
use Rattle.bench_export.specs.Frames.{digits_of, data_field, data_fields, data_names}

pub no_fields : (got : List (List ℕ)) (prefixed : Bool) (m : Recorded) → got ≡ got ++ data_fields 0 prefixed m
unfolding data_fields
no_fields got prefixed m = sym (append-nil got)

pub field_more : (got mid gets : List (List ℕ)) (place : ℕ) (prefixed : Bool) (m : Recorded) → mid ≡ got ++ data_fields place prefixed m
    → gets ≡ mid ++ data_field prefixed m place ∷ [] → gets ≡ got ++ data_fields (place + 1) prefixed m
unfolding data_fields
field_more got mid gets place prefixed m a b =
    b ∙ ap (λ (l : List (List ℕ)). l ++ data_field prefixed m place ∷ []) a
    ∙ append_assoc got (data_fields place prefixed m) (data_field prefixed m place ∷ [])
    ∙ ap (λ (k : ℕ). got ++ data_fields k prefixed m) (sym (add-one place))

pub no_names : (got : List (List ℕ)) → got ≡ got ++ data_names 0
unfolding data_names
no_names got = sym (append-nil got)

pub name_more : (got mid gets : List (List ℕ)) (place : ℕ) → mid ≡ got ++ data_names place
    → gets ≡ mid ++ (codes "word" ++ decimal (place + 1)) ∷ [] → gets ≡ got ++ data_names (place + 1)
unfolding data_names
name_more got mid gets place a b =
    b ∙ ap (λ (l : List (List ℕ)). l ++ (codes "word" ++ decimal (place + 1)) ∷ []) a
    ∙ append_assoc got (data_names place) ((codes "word" ++ decimal (place + 1)) ∷ [])
    ∙ ap (λ (k : ℕ). got ++ data_names k) (sym (add-one place))

-- decimal digits in front of the last, and the last
pub digits_more : (t0 t1 t2 : List ℕ) (rest count value : ℕ) → rest + 1 ≡ count → t1 ≡ t0 ++ digits_of rest (value / 10)
    → t2 ≡ t1 ++ (48 + value % 10) ∷ [] → t2 ≡ t0 ++ digits_of count value
unfolding digits_of
digits_more t0 t1 t2 rest count value is a b =
    b ∙ ap (λ (l : List ℕ). l ++ (48 + value % 10) ∷ []) a ∙ append_assoc t0 (digits_of rest (value / 10)) ((48 + value % 10) ∷ [])
    ∙ ap (λ (k : ℕ). t0 ++ digits_of k value) (sym (add-one rest) ∙ is)
