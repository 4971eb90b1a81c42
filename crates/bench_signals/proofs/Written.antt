-- Rows of messages that were written, one after the other.
use Rattle.std.proofs.Common.{◌≡◌, ℕ, ◌+◌, Bool, true, false, List, [], ◌∷◌, ◌++◌, length, Option, Some, None, refl, ap, sym, ◌∙◌, subst, append_assoc}
use Rattle.std.specs.Prelude.{if◌then◌else◌}
use Rattle.std.specs.Io.KnownBytes.{Appends}
use Rattle.bench_clock.specs.declared.clock.Mark.{Mark}
use Rattle.bench_dump.proofs.Steps.{appends_both, appends_nothing}
use Rattle.bench_select.specs.Viewed.{Viewed}
use Rattle.bench_signals.specs.Latest.{kept_at, AreKept, AreWritten}
use Rattle.bench_export.specs.Frames.{frame_row}
use Rattle.bench_select.specs.Selecting.{selects}
use Rattle.ch11_layout.specs.Stamps.{Recorded}
use Rattle.csv.specs.Writing.{default_writer, row_text}
use Rattle.bench_signals.specs.Sheets.{any_text, cells, frame_text, front, is_prefixed, is_selected, message_row, rows_by, rows_if, rows_of, shows_any}
use Rattle.bench_signals.specs.declared.latest.Latest.{Latest}
use Rattle.bench_signals.specs.declared.sheet.Sheet.{Sheet}

pub rows_selected : (sheet : Sheet) (clock : List Mark) (history : List Viewed) (h : Viewed) → is_selected sheet history h ≡ true → rows_if sheet clock history h ≡ rows_by sheet.rows sheet clock history h
unfolding rows_if
rows_selected sheet clock history h is = rw is refl

pub rows_left_out : (sheet : Sheet) (clock : List Mark) (history : List Viewed) (h : Viewed) → is_selected sheet history h ≡ false → rows_if sheet clock history h ≡ []
unfolding rows_if
rows_left_out sheet clock history h is = rw is refl

-- whether the next message is selected
pub now_selected : (sheet : Sheet) (history : List Viewed) (number channel : ℕ) (m : Recorded) (chosen b : Bool) → number ≡ length history + 1 → chosen ≡ selects sheet.table.selection number channel m → chosen ≡ b → is_selected sheet history (channel, m) ≡ b
now_selected sheet history number channel m chosen b from is so = ap (λ (n : ℕ). selects sheet.table.selection n channel m) (sym from) ∙ sym is ∙ so

-- the row of a message with cells
pub any_row : (sheet : Sheet) (clock : List Mark) (history : List Viewed) (number channel : ℕ) (m : Recorded) (begun row : List (List ℕ)) (any : Bool) → number ≡ length history + 1 → begun ≡ front sheet clock number channel m
    → row ≡ begun ++ cells sheet history (channel, m) sheet.signals.now → any ≡ shows_any sheet history (channel, m) sheet.signals.now → any ≡ true → row_text default_writer row ≡ any_text sheet clock history (channel, m)
any_row sheet clock history number channel m begun row any from opened put is so =
    ap (row_text default_writer) (put ∙ ap (λ (r : List (List ℕ)). r ++ cells sheet history (channel, m) sheet.signals.now) (opened ∙ ap (λ (n : ℕ). front sheet clock n channel m) from))
    ∙ sym (ap (λ (b : Bool). if b then message_row sheet clock history (channel, m) (cells sheet history (channel, m) sheet.signals.now) else []) (sym is ∙ so))

pub no_row : (sheet : Sheet) (clock : List Mark) (history : List Viewed) (channel : ℕ) (m : Recorded) (any : Bool) → any ≡ shows_any sheet history (channel, m) sheet.signals.now → any ≡ false → any_text sheet clock history (channel, m) ≡ []
no_row sheet clock history channel m any is so = ap (λ (b : Bool). if b then message_row sheet clock history (channel, m) (cells sheet history (channel, m) sheet.signals.now) else []) (sym is ∙ so)

-- and behind the columns of data frames
pub frame_is : (sheet : Sheet) (clock : List Mark) (history : List Viewed) (number channel : ℕ) (m : Recorded) (prefixed : Bool) (begun framed row : List (List ℕ)) → number ≡ length history + 1 → prefixed ≡ is_prefixed sheet.table.columns
    → begun ≡ front sheet clock number channel m → framed ≡ begun ++ frame_row prefixed m → row ≡ framed ++ cells sheet history (channel, m) sheet.signals.now
    → row_text default_writer row ≡ frame_text sheet clock history (channel, m)
frame_is sheet clock history number channel m prefixed begun framed row from words opened frame put =
    let told = cells sheet history (channel, m) sheet.signals.now in
    ap (row_text default_writer)
    (
    put
    ∙ ap (λ (r : List (List ℕ)). r ++ told) frame
    ∙ append_assoc begun (frame_row prefixed m) told
    ∙ ap (λ (r : List (List ℕ)). r ++ (frame_row prefixed m ++ told)) (opened ∙ ap (λ (n : ℕ). front sheet clock n channel m) from)
    ∙ ap (λ (b : Bool). front sheet clock (length history + 1) channel m ++ (frame_row b m ++ told)) words
    )

-- a value that is there
pub told_some : (there : Bool) (text : List ℕ) (shown : Option (List ℕ)) → (if there then Some text else None) ≡ shown → there ≡ true → Some text ≡ shown
told_some there text shown is so = subst (λ (b : Bool). (if b then Some text else None) ≡ shown) so is

pub told_none : (there : Bool) (text : List ℕ) (shown : Option (List ℕ)) → (if there then Some text else None) ≡ shown → there ≡ false → None ≡ shown
told_none there text shown is so = subst (λ (b : Bool). (if b then Some text else None) ≡ shown) so is

pub written_none : (sheet : Sheet) (clock : List Mark) (got : Option (List ℕ)) (l : Latest) → ((signal channel : ℕ) → kept_at l signal channel ≡ None) → AreWritten sheet clock got [] got l
written_none sheet clock got l none = record { kept = λ changes i c s there below. none i c; written = appends_nothing got }

pub written_more : (sheet : Sheet) (clock : List Mark) (got mid gets : Option (List ℕ)) (history : List Viewed) (h : Viewed) (old new : Latest) → AreWritten sheet clock got history mid old → AreKept sheet (h ∷ history) new
    → Appends mid gets (rows_if sheet clock history h) → AreWritten sheet clock got (h ∷ history) gets new
written_more sheet clock got mid gets history h old new w kept one = record {
  kept = kept;
  written = appends_both got mid gets (rows_of sheet clock history) (rows_if sheet clock history h) w.written one;
}
