-- Attributes, one after the other.
use Rattle.std.proofs.Common.{◌≡◌, ℕ, suc, zero, ◌<◌, ◌≤◌, Bool, true, false, List, [], ◌∷◌, length, take, drop, map, None, Some, refl, sym, ap, ◌∙◌, arith}
use Rattle.std.specs.Prelude.{nat_eq, ◌≢◌, ◌++◌}
use Rattle.std.specs.Cmp.Lexicographic.{pointwise, same_text}
use Rattle.std.specs.List.{find, position_or_len, starts_with}
use Rattle.std.proofs.lemmas.Bool.Decides.{nat_tests}
use Rattle.bench_names.specs.Attributes.{Attributed, attribute_of, attributes, is_byte, joined, pieces}
use Rattle.bench_names.specs.Names.{is_source, source, source_name, sourced, track, track_place}

-- the first piece of a text that is not empty, and those behind its semicolon
abbrev pub semicolon_in : List ℕ → ℕ
semicolon_in text = position_or_len (is_byte 59) text

abbrev BeginsSo : ℕ → List ℕ → Type 0
BeginsSo b bs = pieces (b ∷ bs) ≡ take (semicolon_in (b ∷ bs)) (b ∷ bs) ∷ pieces (drop 1 (drop (semicolon_in (b ∷ bs)) (b ∷ bs)))

-- a byte more in front of the first piece
shifts : (n m : ℕ) (b : ℕ) (bs : List ℕ) → m ≡ suc n → joined b (take n bs ∷ pieces (drop 1 (drop n bs))) ≡ take m (b ∷ bs) ∷ pieces (drop 1 (drop m (b ∷ bs)))
shifts n m b bs is = rw is refl

first_piece : (b : ℕ) (bs : List ℕ) → BeginsSo b bs
first_piece b [] = by (is_byte 59 b) refl
  where
    by : (ends : Bool) → is_byte 59 b ≡ ends → BeginsSo b []
    by true is = rw is refl
    by false is = rw is refl
first_piece b (c ∷ cs) = by (is_byte 59 b) refl (first_piece c cs)
  where
    by : (ends : Bool) → is_byte 59 b ≡ ends → BeginsSo c cs → BeginsSo b (c ∷ cs)
    by true is later = rw is refl
    by false is later =
        let opens : pieces (b ∷ c ∷ cs) ≡ joined b (pieces (c ∷ cs)) = rw is refl in
        let place : semicolon_in (b ∷ c ∷ cs) ≡ suc (semicolon_in (c ∷ cs)) = rw is (omega arith) in
        opens ∙ (ap (joined b) later ∙ shifts (semicolon_in (c ∷ cs)) (semicolon_in (b ∷ c ∷ cs)) b (c ∷ cs) place)

-- the first attribute of a text, and those behind it
pub first_of : (text : List ℕ) → 0 < length text → attributes text ≡ attribute_of (take (semicolon_in text) text) ∷ attributes (drop 1 (drop (semicolon_in text) text))
first_of [] some = absurd (omega arith)
first_of (b ∷ bs) some = ap (map attribute_of) (first_piece b bs)

-- a text behind the same front
pub same_front : (xs ys zs : List ℕ) → pointwise nat_eq (xs ++ ys) (xs ++ zs) ≡ pointwise nat_eq ys zs
same_front [] ys zs = refl
same_front (x ∷ xs) ys zs = rw (same_byte x) (same_front xs ys zs)
  where
    same_byte : (n : ℕ) → nat_eq n n ≡ true
    same_byte n = grind (arith, nat_tests)

-- the name of the attribute with the name of a track's data source
pub source_is : (name front behind number : List ℕ) → front ≡ take (track_place name) name → behind ≡ drop (track_place name) name → number ≡ drop 5 behind → source_name name ≡ front ++ (source ++ number)
source_is name front behind number in_front at last =
    sym (ap (λ (f : List ℕ). f ++ (source ++ number)) in_front ∙ ap (λ (n : List ℕ). take (track_place name) name ++ (source ++ n)) (last ∙ ap (drop 5) at))

-- texts that are not the same
pub are_others : (xs ys : List ℕ) → xs ≢ ys → false ≡ pointwise nat_eq xs ys
are_others xs ys other = by (pointwise nat_eq xs ys) refl
  where
    by : (r : Bool) → r ≡ pointwise nat_eq xs ys → false ≡ r
    by true is = absurd (other (same_text xs ys is))
    by false is = refl

-- a find that passes over the first, and one that ends there
pub passes_over : (p : Attributed → Bool) (all : List Attributed) (a : Attributed) (rest : List Attributed) → all ≡ a ∷ rest → p a ≡ false → find p rest ≡ find p all
passes_over p all a rest is other = rw (is, other) refl

pub finds : (p : Attributed → Bool) (all : List Attributed) (a : Attributed) (rest : List Attributed) → all ≡ a ∷ rest → p a ≡ true → find p all ≡ Some a
finds p all a rest is met = rw (is, met) refl

pub finds_none : (p : Attributed → Bool) (all : List Attributed) → all ≡ [] → find p all ≡ None
finds_none p all is = rw is refl

-- where a track's mark stands
pub place_is : (name : List ℕ) (i : ℕ) → i ≤ length name → ((k : ℕ) → k < i → starts_with nat_eq (drop k name) track ≡ false) → (i < length name → starts_with nat_eq (drop i name) track ≡ true) → track_place name ≡ i
place_is [] zero within before here = refl
place_is [] (suc i) within before here = absurd (omega arith)
place_is (b ∷ bs) zero within before here = rw (here (omega arith)) refl
place_is (b ∷ bs) (suc i) within before here =
    let later = place_is bs i (omega arith) (λ k less. before (suc k) (omega arith)) (λ less. here (omega arith)) in
    rw (before 0 (omega arith)) (omega (arith, later))

-- the value of the first that has the name of a data source
pub sourced_over : (track : List ℕ) (all : List Attributed) (a : Attributed) (rest : List Attributed) → all ≡ a ∷ rest → is_source track a.0 ≡ false → sourced track rest ≡ sourced track all
sourced_over track all a rest is other = rw (is, other) refl

pub sourced_here : (track : List ℕ) (all : List Attributed) (a : Attributed) (rest : List Attributed) → all ≡ a ∷ rest → is_source track a.0 ≡ true → sourced track all ≡ Some a.1
sourced_here track all a rest is met = rw (is, met) refl

pub sourced_none : (track : List ℕ) (all : List Attributed) → all ≡ [] → sourced track all ≡ None
sourced_none track all is = rw is refl
