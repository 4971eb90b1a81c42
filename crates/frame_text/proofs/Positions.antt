-- The place behind a whole text.
use Rattle.std.proofs.Common.{◌≡◌, ℕ, ◌+◌, ◌≤◌, List, [], ◌++◌, length, take, drop, refl, sym, ap, ap₂, ◌∙◌}
use Rattle.std.specs.List.{count_by}
use Rattle.std.proofs.lemmas.List.{take_all, take-append-drop}
use Rattle.frame_text.specs.declared.faults.Place.{Place}
use Rattle.text_lines.specs.Lines.{is_line_end}
use Rattle.frame_text.specs.Places.{since_line_end, place_behind, IsPlaceOf}

pub place_at_end : (xs : List ℕ) (i line column : ℕ) → length xs ≤ i → line ≡ 1 + count_by is_line_end (take i xs) → column ≡ 1 + since_line_end (take i xs) → let place : Place = record { line = line; column = column } in place ≡ place_behind xs
place_at_end xs i line column h e c =
    ap₂ (λ l k. let place : Place = record { line = l; column = k } in place) (e ∙ ap (λ ys. 1 + count_by is_line_end ys) (take_all i xs h)) (c ∙ ap (λ ys. 1 + since_line_end ys) (take_all i xs h))

-- the place behind a beginning of a text
pub begin_place : (text before : List ℕ) (n : ℕ) (place : Place) → before ≡ take n text → place ≡ place_behind before → IsPlaceOf text place
begin_place text before n place e h = (before, drop n text, sym (take-append-drop n text) ∙ ap (λ xs. xs ++ drop n text) (sym e), h)

-- the place in front of a text
pub first_place : (text : List ℕ) → let first : Place = record { line = 1; column = 1 } in IsPlaceOf text first
first_place text = ([], text, refl, refl)
