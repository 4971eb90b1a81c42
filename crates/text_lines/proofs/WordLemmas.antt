-- The words of a text, one by one.
use Rattle.std.proofs.Common.{◌≡◌, ℕ, suc, ◌+◌, ◌<◌, List, [], ◌∷◌, length, take, drop, refl, sym, ap, ◌∙◌, arith}
use Rattle.std.specs.Prelude.{Bool, true, false, slice_index}
use Rattle.std.specs.List.{filter, slice_split, position_or_len}
use Rattle.text_lines.specs.Words.{Text, from_word, is_space, has_bytes, words}

-- a space before the words
pub words-space : (b : ℕ) (text : Text) → is_space b ≡ true → words (b ∷ text) ≡ words text
words-space b text space = rw space refl

-- a text from its first word on has the same words
pub from_word-words : (text : Text) → words (from_word text) ≡ words text
from_word-words [] = refl
from_word-words (b ∷ text) = go (is_space b) refl (from_word-words text)
  where
    go : (s : Bool) → is_space b ≡ s → words (from_word text) ≡ words text → words (from_word (b ∷ text)) ≡ words (b ∷ text)
    go true space rest =
        let step : from_word (b ∷ text) ≡ from_word text = rw space refl in
        ap words step ∙ (rest ∙ sym (words-space b text space))
    go false other rest =
        let step : from_word (b ∷ text) ≡ b ∷ text = rw other refl in
        ap words step

-- a text of no bytes has no words
pub words-none : (text : Text) → length text ≡ 0 → words text ≡ []
words-none [] none = refl
words-none (b ∷ text) none = absurd (omega arith)

-- and begins with no space
pub from_word-starts : (text : Text) → 0 < length (from_word text) → is_space (slice_index (from_word text) 0) ≡ false
from_word-starts [] some = absurd (omega arith)
from_word-starts (b ∷ text) some = go (is_space b) refl (from_word-starts text) some
  where
    go : (s : Bool) → is_space b ≡ s → (0 < length (from_word text) → is_space (slice_index (from_word text) 0) ≡ false)
        → 0 < length (from_word (b ∷ text)) → is_space (slice_index (from_word (b ∷ text)) 0) ≡ false
    go true space rest some = rw space (rest (rw space at some))
    go false other rest some = rw other other

abbrev parts_behind : Text → List Text
parts_behind [] = []
parts_behind (b ∷ text) = slice_split is_space text

one_more : (n : ℕ) → 1 + n ≡ suc n
one_more n = omega arith

abbrev before : Text → Text
before text = take (position_or_len is_space text) text

abbrev behind : Text → Text
behind text = drop (position_or_len is_space text) text

-- the parts of a text: what stands before the first space, and the parts behind that
parts : (text : Text) → slice_split is_space text ≡ before text ∷ parts_behind (behind text)
parts [] = refl
parts (b ∷ text) = go (is_space b) refl (parts text)
  where
    go : (s : Bool) → is_space b ≡ s → slice_split is_space text ≡ before text ∷ parts_behind (behind text) → slice_split is_space (b ∷ text) ≡ before (b ∷ text) ∷ parts_behind (behind (b ∷ text))
    go true space is = rw space refl
    go false other is = rw (other, is, one_more) refl

-- the parts behind the first word hold the words that are left
left_over : (text : Text) → filter has_bytes (parts_behind (behind text)) ≡ words (behind text)
left_over [] = refl
left_over (b ∷ text) = go (is_space b) refl (left_over text)
  where
    go : (s : Bool) → is_space b ≡ s → filter has_bytes (parts_behind (behind text)) ≡ words (behind text) → filter has_bytes (parts_behind (behind (b ∷ text))) ≡ words (behind (b ∷ text))
    go true space is = rw (space, space) refl
    go false other is = rw (other, one_more) is

-- the first word of a text that begins with one
pub words-first : (text : Text) → 0 < length text → (0 < length text → is_space (slice_index text 0) ≡ false)
    → words text ≡ take (position_or_len is_space text) text ∷ words (drop (position_or_len is_space text) text)
words-first [] some start = absurd (omega arith)
words-first (b ∷ text) some start = rw (start some, parts text, one_more) (ap (λ (ws : List Text). (b ∷ take (position_or_len is_space text) text) ∷ ws) (left_over text))
