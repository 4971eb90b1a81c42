-- Parts of a line, one after the other.
use Rattle.std.proofs.Common.{◌≡◌, ℕ, Bool, true, false, ◌||◌, List, [], ◌∷◌, ◌++◌, Option, Result, Ok, Err, OnOk, refl, sym, ap, ◌∙◌, append_assoc, append-nil}
use Rattle.std.specs.Io.KnownBytes.{Appends}
use Rattle.std.proofs.KnownBytes.{Appends-trans}
use Rattle.text_lines.specs.Words.{Text}
use Rattle.bench_state.specs.Marks.{end_if, lead, listed, is_some_part}
use Rattle.bench_state.specs.RampText.{is_begun, ramps_head, shown}

-- parts behind parts
listed-more : (begun : Bool) (address : ℕ) (ps qs : List Text) → listed begun address (ps ++ qs) ≡ listed begun address ps ++ listed (begun || is_some_part ps) address qs
listed-more true address [] qs = refl
listed-more false address [] qs = refl
listed-more begun address (p ∷ ps) qs =
    ap (λ (text : Text). (lead begun address ++ p) ++ text) (listed-more true address ps qs) ∙ sym (append_assoc (lead begun address ++ p) (listed true address ps) (listed true address qs))
    ∙ ap (λ b. ((lead begun address ++ p) ++ listed true address ps) ++ listed b address qs) (sym (or_true begun))
  where
    or_true : (b : Bool) → (b || true) ≡ true
    or_true true = refl
    or_true false = refl

some-more : (begun : Bool) (ps qs : List Text) → (begun || is_some_part (ps ++ qs)) ≡ ((begun || is_some_part ps) || is_some_part qs)
some-more true ps qs = refl
some-more false [] qs = refl
some-more false (p ∷ ps) qs = refl

-- whether a part stands by then
pub begun_next : (begun now next : Bool) (ps qs : List Text) → now ≡ (begun || is_some_part ps) → next ≡ (now || is_some_part qs) → next ≡ (begun || is_some_part (ps ++ qs))
begun_next begun now next ps qs e f = f ∙ ap (λ b. b || is_some_part qs) e ∙ sym (some-more begun ps qs)

-- a writer that got parts, and then others
pub listed_next : (old mid new : Option (List ℕ)) (begun now : Bool) (address : ℕ) (ps qs : List Text) → now ≡ (begun || is_some_part ps) → Appends old mid (listed begun address ps) → Appends mid new (listed now address qs) → Appends old new (listed begun address (ps ++ qs))
listed_next old mid new begun now address ps qs e a b = rw (listed-more begun address ps qs, ← e) (Appends-trans old mid new (listed begun address ps) (listed now address qs) a b)

pub listed_then : {A E : Type 0} (r : Result A E) (old mid new : Option (List ℕ)) (begun now : Bool) (address : ℕ) (ps qs : List Text) → now ≡ (begun || is_some_part ps) → Appends old mid (listed begun address ps) → OnOk r (Appends mid new (listed now address qs)) → OnOk r (Appends old new (listed begun address (ps ++ qs)))
listed_then (Ok x) old mid new begun now address ps qs e a b = listed_next old mid new begun now address ps qs e a b
listed_then (Err e) old mid new begun now address ps qs is a b = tt

-- ramps behind ramps
begun-more : (xs ys : Text) → is_begun (xs ++ ys) ≡ (is_begun xs || is_begun ys)
begun-more [] ys = refl
begun-more (x ∷ xs) ys = refl

shown-on : (own subaddress : ℕ) (ys : Text) → shown true own subaddress ys ≡ ys
shown-on own subaddress [] = refl
shown-on own subaddress (y ∷ ys) = refl

shown-more : (own subaddress : ℕ) (xs ys : Text) → shown false own subaddress (xs ++ ys) ≡ shown false own subaddress xs ++ shown (is_begun xs) own subaddress ys
shown-more own subaddress [] ys = refl
shown-more own subaddress (x ∷ xs) ys =
    sym (append_assoc (ramps_head own subaddress) (x ∷ xs) ys) ∙ ap (λ (text : Text). shown false own subaddress (x ∷ xs) ++ text) (sym (shown-on own subaddress ys))

pub ramps_next : (now next : Bool) (xs ys : Text) → now ≡ is_begun xs → next ≡ (now || is_begun ys) → next ≡ is_begun (xs ++ ys)
ramps_next now next xs ys e f = f ∙ ap (λ b. b || is_begun ys) e ∙ sym (begun-more xs ys)

pub shown_next : (old mid new : Option (List ℕ)) (now : Bool) (own subaddress : ℕ) (xs ys : Text) → now ≡ is_begun xs → Appends old mid (shown false own subaddress xs) → Appends mid new (shown now own subaddress ys) → Appends old new (shown false own subaddress (xs ++ ys))
shown_next old mid new now own subaddress xs ys e a b = rw (shown-more own subaddress xs ys, ← e) (Appends-trans old mid new (shown false own subaddress xs) (shown now own subaddress ys) a b)

-- the end of their line
pub line_ends : {A E : Type 0} (r : Result A E) (old mid new : Option (List ℕ)) (now : Bool) (text ramps : Text) → now ≡ is_begun ramps → Appends old mid text → OnOk r (Appends mid new (end_if now)) → OnOk r (Appends old new (text ++ end_if (is_begun ramps)))
line_ends (Ok x) old mid new now text ramps e a b = rw (← e) (Appends-trans old mid new text (end_if now) a b)
line_ends (Err x) old mid new now text ramps e a b = tt

-- one part
pub part_appends : (old mid new : Option (List ℕ)) (begun : Bool) (address : ℕ) (part : Text) → Appends old mid (lead begun address) → Appends mid new part → Appends old new (listed begun address (part ∷ []))
part_appends old mid new begun address part a b = rw (append-nil (lead begun address ++ part)) (Appends-trans old mid new (lead begun address) part a b)
