-- Rows of sources, printed one after the other.
use Rattle.std.proofs.Common.{◌≡◌, ◌≢◌, ℕ, zero, suc, ◌+◌, ◌<◌, ◌≤◌, List, [], ◌∷◌, ◌++◌, length, get_or, drop, refl, sym, ap, append_assoc, arith}
use Rattle.std.specs.Prelude.{Option, None, Some, codes, decimal}
use Rattle.std.proofs.lemmas.Bool.{ne_eqb}
use Rattle.std.proofs.lemmas.List.{append-nil}
use Rattle.std.specs.Option.{is_some}
use Rattle.text_lines.specs.Words.{Text}
use Rattle.controller_host.specs.declared.sources.Row.{Row}
use Rattle.bench_state.specs.Marks.{end_if}
use Rattle.bench_state.specs.ControllerText.{controller_lines}
use Rattle.bench_state.specs.SourceRows.{dots, row_text, rows_text}

pub dots_last : (count : ℕ) → dots count ++ codes " ...." ≡ codes " ...." ++ dots count
dots_last zero = refl
dots_last (suc count) = ap (λ (t : Text). codes " ...." ++ t) (dots_last count)

pub rows_next : (before : Option Row) (rows : List Row) (i : ℕ) (other : Row) → i < length rows
    → rows_text before (drop i rows) ≡ row_text before (get_or rows i other) ++ rows_text (Some (get_or rows i other)) (drop (i + 1) rows)
rows_next before [] i other less = absurd (omega (arith, less))
rows_next before (r ∷ rows) zero other less = refl
rows_next before (r ∷ rows) (suc i) other less =
    let next : suc i + 1 ≡ suc (i + 1) = omega arith in
    rw next (rows_next before rows i other (omega (arith, less)))

pub rows_end : (before : Option Row) (rows : List Row) (i : ℕ) → length rows ≤ i → rows_text before (drop i rows) ≡ end_if (is_some before)
rows_end before [] zero le = refl
rows_end before [] (suc i) le = refl
rows_end before (r ∷ rows) zero le = absurd (omega (arith, le))
rows_end before (r ∷ rows) (suc i) le = rows_end before rows i (omega (arith, le))

-- ---- what the host of the controller has asked for

pub lines_told : (queued : ℕ) (rows : List Row) → (queued ≡ 0 → rows ≡ [] → ⊥) → controller_lines queued (rows_text None rows) ≡ (codes "controller queued " ++ (decimal queued ++ codes "\n")) ++ rows_text None rows
lines_told queued [] some =
    let ne : queued ≢ 0 = λ e. some e refl in
    rw (ne_eqb queued 0 ne) (sym (append-nil (codes "controller queued " ++ (decimal queued ++ codes "\n"))))
lines_told queued (r ∷ rest) some = ap (λ (t : Text). codes "controller queued " ++ t) (sym (append_assoc (decimal queued) (codes "\n") (rows_text None (r ∷ rest))))
