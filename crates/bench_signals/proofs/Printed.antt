-- Texts of figures that a writer got, one after the other.
use Rattle.std.specs.Borrow.{Bor}
use Rattle.std.proofs.Common.{◌≡◌, ℕ, ◌+◌, ◌<◌, ◌≤◌, Bool, List, [], ◌∷◌, ◌++◌, length, take, get_or, map, Option, Some, None, Result, Ok, Err, refl, sym, ap, ◌∙◌, subst, append_assoc, append-nil}
use Rattle.std.specs.Prelude.{slice_get, OnOk}
use Rattle.std.specs.Io.KnownBytes.{Appends}
use Rattle.std.specs.List.{flat_map}
use Rattle.std.specs.Option.{option_copied}
use Rattle.std.specs.Slice.{IsItemAt}
use Rattle.std.proofs.lemmas.List.{take_all, take_more}
use Rattle.std.proofs.lemmas.Option.{slice_get_past, slice_get_read}
use Rattle.text_lines.specs.Words.{Text}
use Rattle.signal_dictionary.specs.declared.signals.Signal.{Signal}
use Rattle.bench_dump.proofs.Steps.{appends_both}
use Rattle.bench_signals.specs.FigureText.{figure_text, figures_text, head_of}
use Rattle.bench_signals.specs.Figures.{said_by}
use Rattle.bench_signals.specs.declared.figures.SignalFigures.{SignalFigures}

-- a writer that got one text, and then another where a call came to its end
pub then_appends : {A E : Type 0} (r : Result A E) (old mid new : Option (List ℕ)) (first second : List ℕ) → Appends old mid first → OnOk r (Appends mid new second) → OnOk r (Appends old new (first ++ second))
then_appends (Ok x) old mid new first second a b = appends_both old mid new first second a b
then_appends (Err e) old mid new first second a b = tt

-- the signal at a place of a dictionary, which may have none there
pub signal_at : (signals : List Signal) (i : ℕ) (r : Option (Bor Signal)) → IsItemAt signals i r → option_copied r ≡ slice_get signals i
signal_at signals i None item = sym (slice_get_past signals i item.3)
signal_at signals i (Some s) item = sym (slice_get_read signals (length signals) i s.now refl item.3.0 item.1)

-- what is printed of the figures of the program
abbrev pub said_text : Bool → List Signal → SignalFigures → Text
said_text rows signals f = figure_text rows signals (said_by f)

-- texts of a list with one more
flat_more : {X : Type 0} (f : X → Text) (xs : List X) (x : X) → flat_map f (xs ++ x ∷ []) ≡ flat_map f xs ++ f x
flat_more f [] x = append-nil (f x)
flat_more f (y ∷ ys) x = ap (λ (t : Text). f y ++ t) (flat_more f ys x) ∙ sym (append_assoc (f y) (flat_map f ys) (f x))

-- the figures in front of a place were printed, and then those there
pub figures_more : (rows : Bool) (signals : List Signal) (all : List SignalFigures) (i : ℕ) (one : SignalFigures) (old mid new : Option (List ℕ)) → one ≡ get_or all i one → i < length all
    → Appends old mid (head_of rows ++ flat_map (said_text rows signals) (take i all)) → Appends mid new (figure_text rows signals (said_by one)) → Appends old new (head_of rows ++ flat_map (said_text rows signals) (take (i + 1) all))
figures_more rows signals all i one old mid new is within so_far next =
    subst (Appends old new)
    (append_assoc (head_of rows) (flat_map (said_text rows signals) (take i all)) (said_text rows signals one)
    ∙ ap (λ (t : Text). head_of rows ++ t) (sym (flat_more (said_text rows signals) (take i all) one) ∙ ap (flat_map (said_text rows signals)) (ap (λ (x : SignalFigures). take i all ++ x ∷ []) is ∙ sym (take_more all i one within))))
    (appends_both old mid new (head_of rows ++ flat_map (said_text rows signals) (take i all)) (said_text rows signals one) so_far next)

-- all of them were
all_said : (rows : Bool) (signals : List Signal) (all : List SignalFigures) → flat_map (said_text rows signals) all ≡ flat_map (figure_text rows signals) (map said_by all)
all_said rows signals [] = refl
all_said rows signals (f ∷ fs) = ap (λ (t : Text). said_text rows signals f ++ t) (all_said rows signals fs)

pub figures_all : (rows : Bool) (signals : List Signal) (all : List SignalFigures) (i : ℕ) (old new : Option (List ℕ)) → length all ≤ i → Appends old new (head_of rows ++ flat_map (said_text rows signals) (take i all)) → Appends old new (figures_text rows signals (map said_by all))
unfolding figures_text
figures_all rows signals all i old new end so_far =
    subst (λ (t : Text). Appends old new (head_of rows ++ t)) (ap (flat_map (said_text rows signals)) (take_all i all end) ∙ all_said rows signals all) so_far
