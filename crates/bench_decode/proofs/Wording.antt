-- Bus words, put one piece after the other.
use Rattle.std.proofs.Common.{◌≡◌, ℕ, zero, suc, ◌+◌, ◌*◌, ◌≤◌, ◌<◌, max, min, List, [], ◌∷◌, ◌++◌, length, Option, inl, inr, ◌⊎◌, refl, ap, sym, ◌∙◌, arith, append_assoc, append-nil, length-append}
use Rattle.std.proofs.lemmas.Bool.{cases_lt}
use Rattle.bench_dump.specs.DumpText.{bus_words}
use Rattle.bench_dump.specs.Printing.{Carries}
use Rattle.bench_dump.proofs.Packets.{carries_both}
use Rattle.bench_dump.proofs.Steps.{carries_nothing, appends_nothing}
use Rattle.bench_decode.specs.Waiting.{IsPut, Waiting, told}

-- an even number of bytes, and then others
pub words-append : (count : ℕ) (xs ys : List ℕ) → length xs ≡ 2 * count → bus_words (xs ++ ys) ≡ bus_words xs ++ bus_words ys
words-append count [] ys even = refl
words-append count (x ∷ []) ys even = absurd (omega arith)
words-append zero (low ∷ high ∷ xs) ys even = absurd (omega arith)
words-append (suc count) (low ∷ high ∷ xs) ys even = rw (words-append count xs ys (omega arith)) refl

-- nothing was put
pub put-none : (got : Option (List ℕ)) (w : Waiting) → IsPut got w got w []
put-none got w = record { carried = carries_nothing got w.text; shown = refl }

-- some was put, and then more
pub put-then : (got mid gets : Option (List ℕ)) (before between after : Waiting) (first second : List ℕ) → IsPut got before mid between first → IsPut mid between gets after second → IsPut got before gets after (first ++ second)
put-then got mid gets before between after first second a b = record {
  carried = carries_both got mid gets before.text between.text after.text first second a.carried b.carried;
  shown = b.shown ∙ a.shown;
}

-- text that waits was put
pub put-told : (got : Option (List ℕ)) (w after : Waiting) (bytes : List ℕ) → after ≡ told w bytes → IsPut got w got after bytes
unfolding told
put-told got w after bytes is = rw is record {
  carried = record { sent = []; taken = appends_nothing got; kept = refl };
  shown = refl;
}

-- some of the text was put, and this is left
pub record IsPutting (got : Option (List ℕ)) (before : Waiting) (gets : Option (List ℕ)) (after : Waiting) (all left : List ℕ) : Type 0 where
  pub more : List ℕ
  pub put : IsPut got before gets after more
  pub whole : more ++ left ≡ all
  pub room : length after.text ≤ max (length before.text) 64768

pub putting-none : (got : Option (List ℕ)) (w : Waiting) (all : List ℕ) → IsPutting got w got w all all
putting-none got w all = record { more = []; put = put-none got w; whole = refl; room = omega arith }

pub putting-more : (got mid next : Option (List ℕ)) (before between handed after : Waiting) (all left piece others : List ℕ) → IsPutting got before mid between all left → IsPut mid between next handed [] → after ≡ told handed piece
    → left ≡ piece ++ others → length after.text ≤ 64768 → IsPutting got before next after all others
putting-more got mid next before between handed after all left piece others p on is split room = record {
  more = (p.more ++ []) ++ piece;
  put = put-then got next next before handed after (p.more ++ []) piece (put-then got mid next before between handed p.more [] p.put on) (put-told next handed after piece is);
  whole = ap (λ (l : List ℕ). (l ++ piece) ++ others) (append-nil p.more) ∙ append_assoc p.more piece others ∙ ap (λ (l : List ℕ). p.more ++ l) (sym split) ∙ p.whole;
  room = omega (arith, room);
}

pub putting-all : (got gets : Option (List ℕ)) (before after : Waiting) (all left : List ℕ) → IsPutting got before gets after all left → left ≡ [] → IsPut got before gets after all
putting-all got gets before after all left p none = rw (← p.whole, none, append-nil) p.put

-- the first bytes of words, an even number of them or all, and the others
pub words-split : (k : ℕ) (words front back : List ℕ) → words ≡ front ++ back → length front ≡ k → (k ≡ 512) ⊎ (k ≡ length words) → bus_words words ≡ bus_words front ++ bus_words back
words-split k words front back is many (inl even) = ap bus_words is ∙ words-append 256 front back (omega arith)
words-split k words front back is many (inr all) =
    let none : back ≡ [] = nil-of back (omega (arith, ap length is, length-append front back)) in
    ap bus_words is ∙ ap (λ (l : List ℕ). bus_words (front ++ l)) none ∙ ap bus_words (append-nil front) ∙ sym (append-nil (bus_words front)) ∙ ap (λ (l : List ℕ). bus_words front ++ bus_words l) (sym none)
  where
    nil-of : (xs : List ℕ) → length xs ≡ 0 → xs ≡ []
    nil-of [] e = refl
    nil-of (x ∷ xs) e = absurd (omega arith)

pub none-left : (xs : List ℕ) → length xs ≤ 0 → xs ≡ []
none-left [] h = refl
none-left (x ∷ xs) h = absurd (omega arith)

pub min-is : (n k : ℕ) → k ≡ min n 512 → (k ≡ 512) ⊎ (k ≡ n)
min-is n k is = elim (cases_lt n 512) [
  | inl small ↦ inr (omega arith)
  | inr large ↦ inl (omega arith)
]
