-- The lines of a reader, one by one.
use Rattle.std.proofs.Common.{◌≡◌, ℕ, suc, ◌+◌, ◌<◌, [], ◌∷◌, length, drop, refl, sym, ap, ◌∙◌, arith}
use Rattle.std.specs.Prelude.{Bool, true, false}
use Rattle.std.specs.List.{before_first, position_or_len}
use Rattle.std.specs.Io.BufRead.{take_through, drop_through}
use Rattle.text_lines.specs.Words.{Text}
use Rattle.text_lines.specs.Lines.{is_line_end, text_lines}
use Rattle.text_lines.proofs.LineLemmas.{text_lines-first}

one_more : (n : ℕ) → 1 + n ≡ suc n
one_more n = omega arith

ends_before : (b : ℕ) (text : Text) → is_line_end b ≡ true → before_first is_line_end (b ∷ text) ≡ []
ends_before b text ends = rw ends refl

more_before : (b : ℕ) (text : Text) → is_line_end b ≡ false → before_first is_line_end (b ∷ text) ≡ b ∷ before_first is_line_end text
more_before b text other = rw (other, one_more) refl

ends_through : (b : ℕ) (text : Text) → is_line_end b ≡ true → take_through 10 (b ∷ text) ≡ b ∷ []
ends_through b text ends = rw ends refl

more_through : (b : ℕ) (text : Text) → is_line_end b ≡ false → take_through 10 (b ∷ text) ≡ b ∷ take_through 10 text
more_through b text other = rw other refl

-- what stands before the first LF of the bytes up to it
before_through : (text : Text) → before_first is_line_end (take_through 10 text) ≡ before_first is_line_end text
before_through [] = refl
before_through (b ∷ text) = go (is_line_end b) refl (before_through text)
  where
    go : (s : Bool) → is_line_end b ≡ s → before_first is_line_end (take_through 10 text) ≡ before_first is_line_end text
        → before_first is_line_end (take_through 10 (b ∷ text)) ≡ before_first is_line_end (b ∷ text)
    go true ends is = ap (before_first is_line_end) (ends_through b text ends) ∙ ends_before b [] ends ∙ sym (ends_before b text ends)
    go false other is =
        ap (before_first is_line_end) (more_through b text other) ∙ more_before b (take_through 10 text) other
        ∙ ap (λ (l : Text). b ∷ l) is ∙ sym (more_before b text other)

-- what stands behind it
drop_through_is : (text : Text) → drop_through 10 text ≡ drop 1 (drop (position_or_len is_line_end text) text)
drop_through_is [] = refl
drop_through_is (b ∷ text) = go (is_line_end b) refl (drop_through_is text)
  where
    go : (s : Bool) → is_line_end b ≡ s → drop_through 10 text ≡ drop 1 (drop (position_or_len is_line_end text) text)
        → drop_through 10 (b ∷ text) ≡ drop 1 (drop (position_or_len is_line_end (b ∷ text)) (b ∷ text))
    go true ends is = rw ends refl
    go false other is = rw (other, one_more) is

-- the line that was read, and those that are left
pub line_read : (text : Text) → 0 < length text → text_lines text ≡ before_first is_line_end (take_through 10 text) ∷ text_lines (drop_through 10 text)
line_read text some = text_lines-first text some ∙ (rw (before_through text, drop_through_is text) refl)

-- bytes up to the first LF are none only of none
pub some_left : (text : Text) → 0 < length (take_through 10 text) → 0 < length text
some_left [] some = some
some_left (b ∷ text) some = omega arith
