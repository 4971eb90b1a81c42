-- The lines one byte on, and what a writer holds in the end.
use Rattle.std.proofs.Common.{ℕ, ◌≡◌, ◌<◌, ◌+◌, ◌-◌, ◌/◌, ◌%◌, List, [], ◌∷◌, ◌++◌, length, drop, slice_index_or, Option, Some, None, refl, sym, ◌∙◌, ap, arith}
use Rattle.std.proofs.lemmas.List.{drop_more, length-drop, append_assoc, append-nil}
use Rattle.std.specs.Io.KnownBytes.{Appends}
use Rattle.numerals.specs.Numerals.{digit_of}
use Rattle.bench_one.specs.Lines.{behind, shown_from}

-- a first part and then a second make both
pub appends_both : (a b c : Option (List ℕ)) (xs ys : List ℕ) → Appends a b xs → Appends b c ys → Appends a c (xs ++ ys)
appends_both None b c xs ys p q = tt
appends_both (Some a) None c xs ys p q = absurd p
appends_both (Some a) (Some b) None xs ys p q = absurd q
appends_both (Some a) (Some b) (Some c) xs ys p q = q ∙ ap (λ v. v ++ ys) p ∙ append_assoc a xs ys

pub appends_none : (a : Option (List ℕ)) → Appends a a []
appends_none None = tt
appends_none (Some a) = sym (append-nil a)

pub shown_one : (bytes : List ℕ) (place : ℕ) → place < length bytes
    → shown_from place (drop place bytes)
    ≡ digit_of (slice_index_or bytes place 0 / 16) ∷ digit_of (slice_index_or bytes place 0 % 16) ∷ behind place (length bytes - place) ∷ shown_from (place + 1) (drop (place + 1) bytes)
shown_one bytes place small =
    let left : length (drop (place + 1) bytes) + 1 ≡ length bytes - place = rw (length-drop (place + 1) bytes) (omega arith) in
    rw (drop_more bytes place 0 small, left) refl

-- the three characters of a byte, written before what is left, are what was left before
pub shown_step : (a b c : Option (List ℕ)) (bytes row : List ℕ) (place : ℕ) → place < length bytes
    → row ≡ digit_of (slice_index_or bytes place 0 / 16) ∷ digit_of (slice_index_or bytes place 0 % 16) ∷ behind place (length bytes - place) ∷ []
    → Appends a b row → Appends b c (shown_from (place + 1) (drop (place + 1) bytes))
    → Appends a c (shown_from place (drop place bytes))
shown_step a b c bytes row place small is first more =
    rw (shown_one bytes place small) (appends_both a b c _ _ (rw is at first) more)
