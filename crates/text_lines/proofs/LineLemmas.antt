-- The lines of a text, one by one.
use Rattle.std.proofs.Common.{◌≡◌, ℕ, suc, ◌+◌, ◌<◌, List, [], ◌∷◌, ◌++◌, length, take, drop, refl, arith}
use Rattle.std.proofs.Common.{All}
use Rattle.std.proofs.lemmas.List.Splits.{slice_split_at}
use Rattle.std.specs.Prelude.{Bool, true, false}
use Rattle.std.specs.List.{slice_split, position_or_len}
use Rattle.text_lines.specs.Words.{Text, has_bytes}
use Rattle.text_lines.specs.Lines.{is_line_end, without_empty_end, text_lines}

abbrev parts_behind : Text → List Text
parts_behind [] = []
parts_behind (b ∷ text) = slice_split is_line_end text

one_more : (n : ℕ) → 1 + n ≡ suc n
one_more n = omega arith

abbrev pub before : Text → Text
before text = take (position_or_len is_line_end text) text

abbrev pub behind : Text → Text
behind text = drop (position_or_len is_line_end text) text

-- the parts of a text: what stands before the first LF, and the parts behind that
parts : (text : Text) → slice_split is_line_end text ≡ before text ∷ parts_behind (behind text)
parts [] = refl
parts (b ∷ text) = go (is_line_end b) refl (parts text)
  where
    go : (s : Bool) → is_line_end b ≡ s → slice_split is_line_end text ≡ before text ∷ parts_behind (behind text) → slice_split is_line_end (b ∷ text) ≡ before (b ∷ text) ∷ parts_behind (behind (b ∷ text))
    go true ends is = rw ends refl
    go false other is = rw (other, is, one_more) refl

-- what stands before is not empty where nothing stands behind
has_before : (text : Text) → 0 < length text → behind text ≡ [] → has_bytes (before text) ≡ true
has_before [] some none = absurd (omega arith)
has_before (b ∷ text) some none = go (is_line_end b) refl none
  where
    go : (s : Bool) → is_line_end b ≡ s → behind (b ∷ text) ≡ [] → has_bytes (before (b ∷ text)) ≡ true
    go true ends none =
        let wrong : b ∷ text ≡ [] = rw ends at none in cc
    go false other none = rw (other, one_more) refl

-- a part more, before parts that are not none
with_part : (part first : Text) (rest : List Text) → without_empty_end (part ∷ first ∷ rest) ≡ part ∷ without_empty_end (first ∷ rest)
with_part part first rest = refl

-- the first line, and the lines behind the LF that ends it
pub text_lines-first : (text : Text) → 0 < length text → text_lines text ≡ before text ∷ text_lines (drop 1 (behind text))
unfolding text_lines
text_lines-first text some = rw (parts text) (go (behind text) refl)
  where
    go : (after : Text) → behind text ≡ after → without_empty_end (before text ∷ parts_behind after) ≡ before text ∷ without_empty_end (slice_split is_line_end (drop 1 after))
    go [] none = rw (has_before text some none) refl
    go (b ∷ after) is = rw (parts after) refl

pub text_lines-none : (text : Text) → length text ≡ 0 → text_lines text ≡ []
unfolding text_lines
text_lines-none [] none = refl
text_lines-none (b ∷ text) none = absurd (omega arith)

-- a line that holds no LF, its end, and a text behind it
pub text_lines-line : (first rest : Text) → All (λ b. is_line_end b ≡ false) first → text_lines (first ++ 10 ∷ rest) ≡ first ∷ text_lines rest
unfolding text_lines
text_lines-line first rest no_end = rw (slice_split_at is_line_end first 10 rest no_end refl, parts rest) refl
