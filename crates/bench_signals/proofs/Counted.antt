-- Figures that were counted while the signals of a message are passed, one after the other.
use Rattle.std.proofs.Common.{◌≡◌, ℕ, ◌+◌, ◌*◌, ◌<◌, ◌≤◌, ◌==◌, ◌&&◌, ◌≢◌, ◌⊎◌, Bool, true, false, List, [], ◌∷◌, length, Option, Some, None, refl, ap, sym, ◌∙◌, arith, inl, inr, cond}
use Rattle.std.specs.Prelude.{slice_get, if◌then◌else◌, nat_eq, option_map}
use Rattle.std.specs.HashMap.{get}
use Rattle.std.specs.HashSet.{contains}
use Rattle.std.proofs.lemmas.Bool.{cases_eq, eq-eqb, ne_eqb}
use Rattle.std.proofs.lemmas.Option.{slice_get_within}
use Rattle.ch11_reader.specs.Contents.{capped}
use Rattle.signal_dictionary.specs.declared.signals.Kind.{Kind}
use Rattle.signal_dictionary.specs.declared.signals.Signal.{Signal}
use Rattle.bench_select.specs.Viewed.{Viewed}
use Rattle.bench_select.specs.Selecting.{selects}
use Rattle.bench_select.specs.declared.selection.Selection.{Selection}
use Rattle.bench_signals.specs.Counting.{AreCounted, HasNoOthers, IsCounted, IsNoted, counted, figures_at, has_figures}
use Rattle.bench_signals.specs.Figures.{Figures, Moment, and_moment, change_count, figures_of, is_change, moment_at, moment_in, moments_of, one_if, said_by}
use Rattle.bench_signals.specs.declared.counting.Counting.{Counting}
use Rattle.bench_signals.specs.declared.figures.SignalFigures.{SignalFigures}
use Rattle.bench_signals.proofs.Noted.{other_key}
use Rattle.bench_signals.proofs.Parts.{other_number, same_number, some_same}

-- ---- one value more

capped_more : (x y : ℕ) → capped (capped x + y) ≡ capped (y + x)
capped_more x y = omega arith

pub one_value_more : (signal channel : ℕ) (kind : Kind) (m : Moment) (earlier : List Moment) → Some (counted signal channel kind m (figures_of signal channel kind earlier)) ≡ figures_of signal channel kind (m ∷ earlier)
one_value_more signal channel kind m [] = refl
one_value_more signal channel kind m (before ∷ earlier) =
    let many : capped (capped (length (before ∷ earlier)) + 1) ≡ capped (length (m ∷ before ∷ earlier)) = omega arith in
    let changes : capped (capped (change_count kind (before ∷ earlier)) + one_if (is_change kind before m)) ≡ capped (change_count kind (m ∷ before ∷ earlier)) = capped_more (change_count kind (before ∷ earlier)) (one_if (is_change kind before m)) in
    cc

-- ---- the value of a message

-- what is counted of the signal at a place from there on, and of those in front of it
abbrev pub AreAhead : Selection → List Signal → List Viewed → Counting → ℕ → Type 0
AreAhead selection signals history l i = (k c : ℕ) (s : Signal) → i ≤ k → slice_get signals k ≡ Some s → c < 65536 → figures_at l k c ≡ figures_of k c s.kind (moments_of selection s c history)

abbrev pub ArePast : Selection → List Signal → List Viewed → Counting → ℕ → Type 0
ArePast selection signals history l i = (k c : ℕ) (s : Signal) → k < i → slice_get signals k ≡ Some s → c < 65536 → figures_at l k c ≡ figures_of k c s.kind (moments_of selection s c history)

apart : (k i c channel : ℕ) → (k ≡ i → ⊥) → ((k == i) && (c == channel)) ≡ false
apart k i c channel other = rw (other_number k i other) refl

beside : (k i c channel : ℕ) → (c ≡ channel → ⊥) → ((k == i) && (c == channel)) ≡ false
beside k i c channel other = go (k == i) (other_number c channel other)
  where
    go : (b : Bool) → (c == channel) ≡ false → (b && (c == channel)) ≡ false
    go true is = is
    go false is = refl

-- all others are as before
stays : (i channel k c : ℕ) (kind : Kind) (m : Option Moment) (old new : Counting) → IsCounted i channel kind m old new → c < 65536 → ((k == i) && (c == channel)) ≡ false → figures_at new k c ≡ figures_at old k c
stays i channel k c kind None old new passed below other = ap (λ (l : Counting). figures_at l k c) passed
stays i channel k c kind (Some m) old new passed below other = passed.others k c below other

pub ahead_more : (selection : Selection) (signals : List Signal) (history : List Viewed) (old new : Counting) (i channel : ℕ) (kind : Kind) (m : Option Moment) → AreAhead selection signals history old i → IsCounted i channel kind m old new
    → AreAhead selection signals history new (i + 1)
ahead_more selection signals history old new i channel kind m ahead passed = λ k c s above there below.
    stays i channel k c kind m old new passed below (apart k i c channel (λ e. absurd (omega (arith, above, e)))) ∙ ahead k c s (omega (arith, above)) there below

-- what a message is to a signal of a channel
moment_here : (selection : Selection) (s : Signal) (history : List Viewed) (h : Viewed) → selects selection (length history + 1) h.0 h.1 ≡ true → moment_in selection s h.0 history h ≡ moment_at s h.0 h.1
moment_here selection s history h is = rw (same_number h.0, is) refl

moment_beside : (selection : Selection) (s : Signal) (c : ℕ) (history : List Viewed) (h : Viewed) → (h.0 ≡ c → ⊥) → moment_in selection s c history h ≡ None
moment_beside selection s c history h other = rw (other_number h.0 c other) refl

moment_never : (selection : Selection) (s : Signal) (c : ℕ) (history : List Viewed) (h : Viewed) → selects selection (length history + 1) h.0 h.1 ≡ false → moment_in selection s c history h ≡ None
moment_never selection s c history h is = go (h.0 == c)
  where
    go : (b : Bool) → (if b && selects selection (length history + 1) h.0 h.1 then moment_at s h.0 h.1 else None) ≡ None
    go true = rw is refl
    go false = refl

figures_stay : (selection : Selection) (s : Signal) (i c : ℕ) (history : List Viewed) (h : Viewed) → moment_in selection s c history h ≡ None → figures_of i c s.kind (moments_of selection s c history) ≡ figures_of i c s.kind (moments_of selection s c (h ∷ history))
figures_stay selection s i c history h none = ap (λ (m : Option Moment). figures_of i c s.kind (and_moment m (moments_of selection s c history))) (sym none)

-- the figures of the signal behind the message
here : (selection : Selection) (s : Signal) (i c : ℕ) (history : List Viewed) (h : Viewed) (old new : Counting) (m : Option Moment) → c ≡ h.0 → figures_at old i c ≡ figures_of i c s.kind (moments_of selection s c history)
    → IsCounted i h.0 s.kind m old new → figures_at new i c ≡ figures_of i c s.kind (and_moment m (moments_of selection s c history))
here selection s i c history h old new None e before passed = ap (λ (l : Counting). figures_at l i c) passed ∙ before
here selection s i c history h old new (Some m) e before passed =
    ap (figures_at new i) e ∙ passed.noted
    ∙ ap (λ (n : ℕ). Some (counted i n s.kind m (figures_at old i n))) (sym e)
    ∙ ap (λ (f : Option Figures). Some (counted i c s.kind m f)) before
    ∙ one_value_more i c s.kind m (moments_of selection s c history)

one_counted : (selection : Selection) (s : Signal) (i c : ℕ) (history : List Viewed) (h : Viewed) (old new : Counting) → selects selection (length history + 1) h.0 h.1 ≡ true → c < 65536
    → figures_at old i c ≡ figures_of i c s.kind (moments_of selection s c history) → IsCounted i h.0 s.kind (moment_at s h.0 h.1) old new → (c ≡ h.0) ⊎ (c ≢ h.0)
    → figures_at new i c ≡ figures_of i c s.kind (moments_of selection s c (h ∷ history))
one_counted selection s i c history h old new is below before passed (inl e) =
    let told : moment_in selection s c history h ≡ moment_at s h.0 h.1 = ap (λ (n : ℕ). moment_in selection s n history h) e ∙ moment_here selection s history h is in
    here selection s i c history h old new (moment_at s h.0 h.1) e before passed
    ∙ ap (λ (m : Option Moment). figures_of i c s.kind (and_moment m (moments_of selection s c history))) (sym told)
one_counted selection s i c history h old new is below before passed (inr n) =
    stays i h.0 i c s.kind (moment_at s h.0 h.1) old new passed below (beside i i c h.0 n) ∙ before ∙ figures_stay selection s i c history h (moment_beside selection s c history h (λ (e : h.0 ≡ c). n (sym e)))

pub past_more : (selection : Selection) (signals : List Signal) (history : List Viewed) (h : Viewed) (old new : Counting) (i : ℕ) (s : Signal) → selects selection (length history + 1) h.0 h.1 ≡ true → slice_get signals i ≡ Some s
    → AreAhead selection signals history old i → ArePast selection signals (h ∷ history) old i → IsCounted i h.0 s.kind (moment_at s h.0 h.1) old new → ArePast selection signals (h ∷ history) new (i + 1)
past_more selection signals history h old new i s is there ahead past passed = λ k c other before has below. elim (cases_eq k i) [
  | inl e ↦
      let same : s ≡ other = some_same s other (sym there ∙ ap (slice_get signals) (sym e) ∙ has) in
      ap (λ (n : ℕ). figures_at new n c) e
      ∙ one_counted selection s i c history h old new is below (ahead i c s (omega arith) there below) passed (cases_eq c h.0)
      ∙ ap (λ (x : Signal). figures_of i c x.kind (moments_of selection x c (h ∷ history))) same
      ∙ ap (λ (n : ℕ). figures_of n c other.kind (moments_of selection other c (h ∷ history))) (sym e)
  | inr n ↦ stays i h.0 k c s.kind (moment_at s h.0 h.1) old new passed below (apart k i c h.0 n) ∙ past k c other (omega (arith, before, n)) has below
]

-- no other channel has figures
not_both : (b : Bool) → b ≡ false → b ≡ true → ⊥
not_both b none is = let bad : true ≡ false = sym is ∙ none in absurd cc

not_before : (before after : Bool) → (before ≡ true → after ≡ true) → after ≡ false → before ≡ false
not_before false after on none = refl
not_before true after on none = sym (on refl) ∙ none

pub others_more : (i channel : ℕ) (kind : Kind) (m : Option Moment) (old new : Counting) → IsCounted i channel kind m old new → HasNoOthers old → HasNoOthers new
others_more i channel kind None old new passed others = λ k c below none. ap (λ (l : Counting). figures_at l k c) passed ∙ others k c below (ap (λ (l : Counting). has_figures l c) (sym passed) ∙ none)
others_more i channel kind (Some m) old new passed others = λ k c below none.
    passed.others k c below (beside k i c channel (λ (e : c ≡ channel). not_both (has_figures new c) none (ap (has_figures new) e ∙ passed.seen)))
    ∙ others k c below (not_before (has_figures old c) (has_figures new c) (passed.stays c) none)

pub all_counted : (selection : Selection) (signals : List Signal) (history : List Viewed) (l : Counting) (i : ℕ) → length signals ≤ i → ArePast selection signals history l i → HasNoOthers l → AreCounted selection signals history l
all_counted selection signals history l i whole past others = record {
  each = λ k c s there below. past k c s (let within : k < length signals = slice_get_within signals k s there in omega arith) there below;
  others = others;
}

-- behind a message that is not selected
pub counted_still : (selection : Selection) (signals : List Signal) (history : List Viewed) (h : Viewed) (l : Counting) → selects selection (length history + 1) h.0 h.1 ≡ false → AreCounted selection signals history l → AreCounted selection signals (h ∷ history) l
counted_still selection signals history h l is are = record {
  each = λ i c s there below. are.each i c s there below ∙ figures_stay selection s i c history h (moment_never selection s c history h is);
  others = are.others;
}

-- ---- a value that is noted

or_true : (b is : Bool) → is ≡ true → cond b true is ≡ true
or_true true is before = refl
or_true false is before = before

pub put_figures : (signal channel : ℕ) (kind : Kind) (m : Moment) (f : SignalFigures) (before : Option SignalFigures) (old new : Counting)
    → ((q : ℕ) → get nat_eq new.figures q ≡ cond (nat_eq (signal * 65536 + channel) q) (Some f) (get nat_eq old.figures q))
    → ((q : ℕ) → contains nat_eq new.channels q ≡ cond (nat_eq channel q) true (contains nat_eq old.channels q))
    → before ≡ get nat_eq old.figures (signal * 65536 + channel) → said_by f ≡ counted signal channel kind m (option_map said_by before) → channel < 65536
    → IsNoted signal channel kind m old new
put_figures signal channel kind m f before old new put marked was is below = record {
  noted =
      ap (option_map said_by) (put (signal * 65536 + channel))
      ∙ ap (λ (b : Bool). option_map said_by (cond b (Some f) (get nat_eq old.figures (signal * 65536 + channel)))) (eq-eqb (signal * 65536 + channel) (signal * 65536 + channel) refl)
      ∙ ap (λ (x : Figures). Some x) (is ∙ ap (λ (o : Option SignalFigures). counted signal channel kind m (option_map said_by o)) was);
  others = λ i c small other.
      ap (option_map said_by) (put (i * 65536 + c))
      ∙ ap (λ (b : Bool). option_map said_by (cond b (Some f) (get nat_eq old.figures (i * 65536 + c)))) (ne_eqb (signal * 65536 + channel) (i * 65536 + c) (other_key i c signal channel small below other));
  seen = marked channel ∙ ap (λ (b : Bool). cond b true (contains nat_eq old.channels channel)) (eq-eqb channel channel refl);
  stays = λ k before. marked k ∙ or_true (nat_eq channel k) (contains nat_eq old.channels k) before;
}

pub nothing_counted : (selection : Selection) (signals : List Signal) (l : Counting) → ((q : ℕ) → get nat_eq l.figures q ≡ None) → AreCounted selection signals [] l
nothing_counted selection signals l none = record {
  each = λ i c s there below. ap (option_map said_by) (none (i * 65536 + c));
  others = λ i c below is. ap (option_map said_by) (none (i * 65536 + c));
}
