-- Values that are kept while the signals of a message are passed, one after the other.
use Rattle.std.proofs.Common.{◌≡◌, ℕ, ◌+◌, ◌<◌, ◌≤◌, ◌==◌, ◌&&◌, ◌≢◌, Bool, true, false, List, ◌∷◌, length, Option, Some, None, refl, ap, sym, ◌∙◌, arith, inl, inr, ◌⊎◌}
use Rattle.std.specs.Prelude.{slice_get, if◌then◌else◌}
use Rattle.std.proofs.lemmas.Bool.{cases_eq}
use Rattle.std.proofs.lemmas.Option.{slice_get_within}
use Rattle.signal_dictionary.specs.declared.signals.Signal.{Signal}
use Rattle.bench_select.specs.Viewed.{Viewed}
use Rattle.bench_select.specs.Selecting.{selects}
use Rattle.bench_select.specs.declared.selection.Selection.{Selection}
use Rattle.bench_signals.specs.Latest.{kept_at, IsPassed, AreLatest, AreKept}
use Rattle.bench_signals.specs.Sheets.{shown_in, is_selected}
use Rattle.bench_signals.specs.Values.{text_in, told_in, first_of, latest_text, shown_if}
use Rattle.bench_signals.specs.declared.latest.Latest.{Latest}
use Rattle.bench_signals.specs.declared.sheet.Sheet.{Sheet}
use Rattle.bench_signals.proofs.Parts.{same_number, other_number, some_same}

-- what is shown does not depend on the value before where all are asked for
pub shown_same : (changes : Bool) (t a b : Option (List ℕ)) → (changes ≡ true → a ≡ b) → shown_if changes t a ≡ shown_if changes t b
shown_same changes None a b same = refl
shown_same false (Some text) a b same = refl
shown_same true (Some text) a b same = ap (shown_if true (Some text)) (same refl)

-- what is kept of the signals from a place on, and of those in front of it
abbrev pub AreLeft : Sheet → List Viewed → Latest → ℕ → Type 0
AreLeft sheet history l i = (k c : ℕ) (s : Signal) → i ≤ k → slice_get sheet.signals.now k ≡ Some s → c < 65536 → kept_at l k c ≡ latest_text sheet.table.selection s c history

abbrev pub AreDone : Sheet → List Viewed → Latest → ℕ → Type 0
AreDone sheet history l i = (k c : ℕ) (s : Signal) → k < i → slice_get sheet.signals.now k ≡ Some s → c < 65536 → kept_at l k c ≡ latest_text sheet.table.selection s c history

-- another signal, or another channel
apart : (k i c channel : ℕ) → (k ≡ i → ⊥) → ((k == i) && (c == channel)) ≡ false
apart k i c channel other = rw (other_number k i other) refl

beside : (k i c channel : ℕ) → (c ≡ channel → ⊥) → ((k == i) && (c == channel)) ≡ false
beside k i c channel other = go (k == i) (other_number c channel other)
  where
    go : (b : Bool) → (c == channel) ≡ false → (b && (c == channel)) ≡ false
    go true is = is
    go false is = refl

-- all others are as before
stays : (i channel k c : ℕ) (t : Option (List ℕ)) (old new : Latest) → IsPassed i channel t old new → c < 65536 → ((k == i) && (c == channel)) ≡ false → kept_at new k c ≡ kept_at old k c
stays i channel k c None old new passed below other = ap (λ (l : Latest). kept_at l k c) passed
stays i channel k c (Some text) old new passed below other = passed.others k c below other

pub left_more : (sheet : Sheet) (history : List Viewed) (old new : Latest) (i channel : ℕ) (t : Option (List ℕ)) → AreLeft sheet history old i → IsPassed i channel t old new → AreLeft sheet history new (i + 1)
left_more sheet history old new i channel t left passed = λ k c s above there below.
    let other : k ≡ i → ⊥ = λ (e : k ≡ i). absurd (omega arith) in
    stays i channel k c t old new passed below (apart k i c channel other) ∙ left k c s (omega arith) there below

-- the value of the message in its channel, and in another
told_here : (selection : Selection) (s : Signal) (history : List Viewed) (h : Viewed) → selects selection (length history + 1) h.0 h.1 ≡ true → told_in selection s h.0 history h ≡ text_in s h.0 h.1
told_here selection s history h is = rw (same_number h.0, is) refl

told_beside : (selection : Selection) (s : Signal) (c : ℕ) (history : List Viewed) (h : Viewed) → (h.0 ≡ c → ⊥) → told_in selection s c history h ≡ None
told_beside selection s c history h other = rw (other_number h.0 c other) refl

told_never : (selection : Selection) (s : Signal) (c : ℕ) (history : List Viewed) (h : Viewed) → selects selection (length history + 1) h.0 h.1 ≡ false → told_in selection s c history h ≡ None
told_never selection s c history h is = go (h.0 == c)
  where
    go : (b : Bool) → (if b && selects selection (length history + 1) h.0 h.1 then text_in s h.0 h.1 else None) ≡ None
    go true = rw is refl
    go false = refl

-- what is kept of the signal behind the message
here : (selection : Selection) (s : Signal) (i c : ℕ) (history : List Viewed) (h : Viewed) (old new : Latest) (t : Option (List ℕ)) → t ≡ told_in selection s c history h → c ≡ h.0 → c < 65536
    → kept_at old i c ≡ latest_text selection s c history → IsPassed i h.0 t old new → kept_at new i c ≡ first_of t (latest_text selection s c history)
here selection s i c history h old new None is e below before passed = ap (λ (l : Latest). kept_at l i c) passed ∙ before
here selection s i c history h old new (Some text) is e below before passed = ap (kept_at new i) e ∙ passed.kept

one_kept : (sheet : Sheet) (s : Signal) (i c : ℕ) (history : List Viewed) (h : Viewed) (old new : Latest) → is_selected sheet history h ≡ true → c < 65536 → kept_at old i c ≡ latest_text sheet.table.selection s c history
    → IsPassed i h.0 (text_in s h.0 h.1) old new → (c ≡ h.0) ⊎ (c ≢ h.0) → kept_at new i c ≡ latest_text sheet.table.selection s c (h ∷ history)
one_kept sheet s i c history h old new is below before passed (inl e) =
    let told : told_in sheet.table.selection s c history h ≡ text_in s h.0 h.1 = ap (λ (n : ℕ). told_in sheet.table.selection s n history h) e ∙ told_here sheet.table.selection s history h is in
    here sheet.table.selection s i c history h old new (text_in s h.0 h.1) (sym told) e below before passed
    ∙ ap (λ (t : Option (List ℕ)). first_of t (latest_text sheet.table.selection s c history)) (sym told)
one_kept sheet s i c history h old new is below before passed (inr n) =
    stays i h.0 i c (text_in s h.0 h.1) old new passed below (beside i i c h.0 n) ∙ before
    ∙ ap (λ (t : Option (List ℕ)). first_of t (latest_text sheet.table.selection s c history)) (sym (told_beside sheet.table.selection s c history h (λ (e : h.0 ≡ c). n (sym e))))

pub done_more : (sheet : Sheet) (history : List Viewed) (h : Viewed) (old new : Latest) (i : ℕ) (s : Signal) → is_selected sheet history h ≡ true → slice_get sheet.signals.now i ≡ Some s → AreLeft sheet history old i
    → AreDone sheet (h ∷ history) old i → IsPassed i h.0 (text_in s h.0 h.1) old new → AreDone sheet (h ∷ history) new (i + 1)
done_more sheet history h old new i s is there left done passed = λ k c other before has below. elim (cases_eq k i) [
  | inl e ↦
      let same : s ≡ other = some_same s other (sym there ∙ ap (slice_get sheet.signals.now) (sym e) ∙ has) in
      ap (λ (n : ℕ). kept_at new n c) e
      ∙ one_kept sheet s i c history h old new is below (left i c s (omega arith) there below) passed (cases_eq c h.0)
      ∙ ap (λ (x : Signal). latest_text sheet.table.selection x c (h ∷ history)) same
  | inr n ↦ stays i h.0 k c (text_in s h.0 h.1) old new passed below (apart k i c h.0 n) ∙ done k c other (omega (arith, before, n)) has below
]

pub all_done : (sheet : Sheet) (history : List Viewed) (l : Latest) (i : ℕ) → length sheet.signals.now ≤ i → AreDone sheet history l i → AreLatest sheet.table.selection sheet.signals.now history l
all_done sheet history l i past done = λ k c s there below. done k c s (let within : k < length sheet.signals.now = slice_get_within sheet.signals.now k s there in omega arith) there below

-- behind a message that is not selected
pub kept_still : (sheet : Sheet) (history : List Viewed) (h : Viewed) (l : Latest) → is_selected sheet history h ≡ false → AreKept sheet history l → AreKept sheet (h ∷ history) l
kept_still sheet history h l is kept = λ changes k c s there below.
    kept changes k c s there below
    ∙ ap (λ (t : Option (List ℕ)). first_of t (latest_text sheet.table.selection s c history)) (sym (told_never sheet.table.selection s c history h is))

-- what is shown of the signal at a place that is not done
pub shown_is : (sheet : Sheet) (history : List Viewed) (h : Viewed) (l : Latest) (i : ℕ) (s : Signal) → slice_get sheet.signals.now i ≡ Some s → h.0 < 65536 → (sheet.changes ≡ true → AreLeft sheet history l i)
    → shown_if sheet.changes (text_in s h.0 h.1) (kept_at l i h.0) ≡ shown_in sheet history h s
shown_is sheet history h l i s there below left =
    shown_same sheet.changes (text_in s h.0 h.1) (kept_at l i h.0) (latest_text sheet.table.selection s h.0 history) (λ changes. left changes i h.0 s (omega arith) there below)
