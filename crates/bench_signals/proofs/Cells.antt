-- Cells and rows of signals that were put, one after the other.
use Rattle.std.proofs.Common.{◌≡◌, ◌≤◌, ℕ, ◌+◌, Bool, true, false, ◌||◌, List, [], ◌∷◌, ◌++◌, length, drop, take, Option, Some, refl, ap, sym, ◌∙◌, subst, add-one, append_assoc, append-nil}
use Rattle.std.specs.Prelude.{slice_get, is_some}
use Rattle.std.specs.Io.KnownBytes.{Appends}
use Rattle.std.specs.List.{flat_map}
use Rattle.std.proofs.lemmas.Grind.{flat_map-append}
use Rattle.std.proofs.lemmas.List.{drop_all}
use Rattle.signal_dictionary.specs.declared.signals.Signal.{Signal}
use Rattle.bench_clock.specs.declared.clock.Mark.{Mark}
use Rattle.bench_dump.proofs.Steps.{appends_both}
use Rattle.bench_select.specs.Viewed.{Viewed}
use Rattle.bench_signals.specs.Sheets.{shown_in, cell_of, cells, shows_any, value_row, values_text}
use Rattle.bench_signals.specs.declared.sheet.Sheet.{Sheet}
use Rattle.bench_signals.proofs.Parts.{drop_there, take_there}

-- a cell more
pub cells_more : (sheet : Sheet) (history : List Viewed) (h : Viewed) (signals : List Signal) (i : ℕ) (s : Signal) (shown : Option (List ℕ)) (row now all : List (List ℕ)) → slice_get signals i ≡ Some s → shown ≡ shown_in sheet history h s
    → now ≡ row ++ cell_of shown ∷ [] → row ++ cells sheet history h (drop i signals) ≡ all → now ++ cells sheet history h (drop (i + 1) signals) ≡ all
cells_more sheet history h signals i s shown row now all there is put so_far =
    let rest = cells sheet history h (drop (i + 1) signals) in
    let cut : drop i signals ≡ s ∷ drop (i + 1) signals = rw add-one (drop_there signals i s there) in
    ap (λ (r : List (List ℕ)). r ++ rest) put
    ∙ append_assoc row (cell_of shown ∷ []) rest
    ∙ ap (λ (t : Option (List ℕ)). row ++ cell_of t ∷ rest) is
    ∙ ap (λ (l : List Signal). row ++ cells sheet history h l) (sym cut)
    ∙ so_far

-- whether any is shown
or_turned : (a b c : Bool) → ((a || b) || c) ≡ (b || (a || c))
or_turned true true c = refl
or_turned true false c = refl
or_turned false true c = refl
or_turned false false c = refl

pub any_more : (sheet : Sheet) (history : List Viewed) (h : Viewed) (signals : List Signal) (i : ℕ) (s : Signal) (shown : Option (List ℕ)) (before here now all : Bool) → slice_get signals i ≡ Some s → shown ≡ shown_in sheet history h s
    → here ≡ is_some shown → now ≡ (here || before) → (before || shows_any sheet history h (drop i signals)) ≡ all → (now || shows_any sheet history h (drop (i + 1) signals)) ≡ all
any_more sheet history h signals i s shown before here now all there is found put so_far =
    let rest = shows_any sheet history h (drop (i + 1) signals) in
    let cut : drop i signals ≡ s ∷ drop (i + 1) signals = rw add-one (drop_there signals i s there) in
    ap (λ (b : Bool). b || rest) put
    ∙ or_turned here before rest
    ∙ ap (λ (b : Bool). before || (b || rest)) (found ∙ ap is_some is)
    ∙ ap (λ (l : List Signal). before || shows_any sheet history h l) (sym cut)
    ∙ so_far

-- the row of one more value
pub values_more : (sheet : Sheet) (clock : List Mark) (history : List Viewed) (h : Viewed) (signals : List Signal) (i : ℕ) (s : Signal) (shown : Option (List ℕ)) (got mid gets : Option (List ℕ)) → slice_get signals i ≡ Some s
    → shown ≡ shown_in sheet history h s → Appends got mid (values_text sheet clock history h (take i signals)) → Appends mid gets (value_row sheet clock (length history + 1) h.0 h.1 s shown)
    → Appends got gets (values_text sheet clock history h (take (i + 1) signals))
values_more sheet clock history h signals i s shown got mid gets there is so_far one =
    let f = λ (x : Signal). value_row sheet clock (length history + 1) h.0 h.1 x (shown_in sheet history h x) in
    let grown : take (i + 1) signals ≡ take i signals ++ s ∷ [] = rw add-one (take_there signals i s there) in
    let same : values_text sheet clock history h (take (i + 1) signals) ≡ values_text sheet clock history h (take i signals) ++ f s =
    ap (flat_map f) grown ∙ flat_map-append f (take i signals) (s ∷ []) ∙ ap (λ (l : List ℕ). flat_map f (take i signals) ++ l) (append-nil (f s)) in
    let mine : Appends mid gets (f s) = subst (λ (t : Option (List ℕ)). Appends mid gets (value_row sheet clock (length history + 1) h.0 h.1 s t)) is one in
    subst (Appends got gets) (sym same) (appends_both got mid gets (values_text sheet clock history h (take i signals)) (f s) so_far mine)

-- no signal is left
pub cells_end : (sheet : Sheet) (history : List Viewed) (h : Viewed) (signals : List Signal) (i : ℕ) (row all : List (List ℕ)) → length signals ≤ i → row ++ cells sheet history h (drop i signals) ≡ all → row ≡ all
cells_end sheet history h signals i row all past is =
    sym (append-nil row) ∙ ap (λ (l : List Signal). row ++ cells sheet history h l) (sym (drop_all i signals past)) ∙ is

pub any_end : (sheet : Sheet) (history : List Viewed) (h : Viewed) (signals : List Signal) (i : ℕ) (any all : Bool) → length signals ≤ i → (any || shows_any sheet history h (drop i signals)) ≡ all → any ≡ all
any_end sheet history h signals i any all past is =
    or_nothing any ∙ ap (λ (l : List Signal). any || shows_any sheet history h l) (sym (drop_all i signals past)) ∙ is
  where
    or_nothing : (b : Bool) → b ≡ (b || false)
    or_nothing true = refl
    or_nothing false = refl
