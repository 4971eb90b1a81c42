-- The first line of a text, and those behind it.
use Rattle.std.proofs.Common.{◌≡◌, ℕ, suc, ◌+◌, ◌≤◌, [], ◌∷◌, length, refl, sym, ap, ◌∙◌, arith, inl, inr}
use Rattle.std.specs.Prelude.{Bool, true, false, ◌⊎◌}
use Rattle.std.specs.List.{position_or_len, before_first, after_first}
use Rattle.std.proofs.lemmas.Bool.{cases_lt}
use Rattle.std.proofs.lemmas.List.{take_all, drop_all}
use Rattle.std.proofs.lemmas.List.Splits.{slice_split_first, join_with_byte-slice_split}
use Rattle.text_lines.specs.Words.{Text}
use Rattle.job_file.specs.Spelled.{joined_lines}
use Rattle.text_lines.specs.Lines.{is_line_end, lines_of}

one_more : (n : ℕ) → 1 + n ≡ suc n
one_more n = omega arith

-- a text without a line end is one line
whole : (text : Text) → length text ≤ position_or_len is_line_end text → lines_of text ≡ text ∷ []
whole [] le = refl
whole (b ∷ text) le = go (is_line_end b) refl (λ shorter. whole text shorter)
  where
    go : (e : Bool) → is_line_end b ≡ e → (length text ≤ position_or_len is_line_end text → lines_of text ≡ text ∷ []) → lines_of (b ∷ text) ≡ (b ∷ text) ∷ []
    go true ends rest = let z : length (b ∷ text) ≤ 0 = rw ends at le in absurd (omega arith)
    go false goes rest =
        let m : length (b ∷ text) ≤ 1 + position_or_len is_line_end text = rw goes at le in
        rw (goes, rest (omega arith)) refl

-- the lines of a text: its first and those of the text behind it, or its first alone
pub first_line : (text : Text) → (lines_of text ≡ before_first is_line_end text ∷ lines_of (after_first is_line_end text))
    ⊎ ((lines_of text ≡ before_first is_line_end text ∷ []) × (after_first is_line_end text ≡ []))
first_line text =
    elim (cases_lt (position_or_len is_line_end text) (length text)) [
      | inl lt ↦ inl (slice_split_first is_line_end text 0 lt)
      | inr le ↦ inr (whole text le ∙ ap (λ (t : Text). t ∷ []) (sym (take_all (position_or_len is_line_end text) text le)), drop_all (position_or_len is_line_end text + 1) text (omega arith))
    ]

-- the lines of a text, put together, are the text
pub text_again : (text : Text) → joined_lines (lines_of text) ≡ text
text_again text = join_with_byte-slice_split 10 text
