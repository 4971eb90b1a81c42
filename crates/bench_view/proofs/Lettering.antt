-- Letters and words that were put, one behind the other.
use Rattle.std.proofs.Common.{◌≡◌, ◌≤◌, ◌<◌, ℕ, zero, suc, ◌+◌, ◌/◌, ◌%◌, nat_lt, Bool, true, false, if◌then◌else◌, List, [], ◌∷◌, ◌++◌, drop, refl, sym, ap, ◌∙◌, append_assoc, add-one, arith}
use Rattle.std.specs.Prelude.{Some, slice_get}
use Rattle.std.proofs.lemmas.List.{append-nil}
use Rattle.std.proofs.lemmas.Bool.Decides.{nat_tests}
use Rattle.ch11_layout.specs.Layouts.{word_of}
use Rattle.ch11_layout.specs.Stamps.{Recorded}
use Rattle.bench_view.specs.Letters.{letter, letters, word_text}
use Rattle.signal_dictionary.specs.declared.signals.Signal.{Signal}
use Rattle.bench_signals.specs.Values.{text_in}
use Rattle.bench_view.specs.Lines.{words_text, value_text, values_text}

pub letters_none : (t0 : List ℕ) (most value : ℕ) → most ≡ 0 → t0 ≡ t0 ++ letters most value
unfolding letters
letters_none t0 zero value is = sym (append-nil t0)
letters_none t0 (suc most) value is = absurd cc

pub letters_last : (t0 t1 : List ℕ) (most value : ℕ) → (most ≡ 0 → ⊥) → value < 64 → t1 ≡ t0 ++ letter (value % 64) ∷ [] → t1 ≡ t0 ++ letters most value
unfolding letters
letters_last t0 t1 zero value some small e = absurd (some refl)
letters_last t0 t1 (suc most) value some small e =
    let less : nat_lt value 64 ≡ true = grind (arith, nat_tests) in
    e ∙ ap (λ (b : Bool). t0 ++ ((if b then [] else letters most (value / 64)) ++ letter (value % 64) ∷ [])) (sym less)

pub letters_more : (t0 t1 t2 : List ℕ) (rest most value : ℕ) → rest + 1 ≡ most → 64 ≤ value → t1 ≡ t0 ++ letters rest (value / 64) → t2 ≡ t1 ++ letter (value % 64) ∷ [] → t2 ≡ t0 ++ letters most value
unfolding letters
letters_more t0 t1 t2 rest most value is large e1 e2 =
    let less : nat_lt value 64 ≡ false = grind (arith, nat_tests) in
    e2 ∙ ap (λ (l : List ℕ). l ++ letter (value % 64) ∷ []) e1 ∙ append_assoc t0 (letters rest (value / 64)) (letter (value % 64) ∷ [])
    ∙ ap (λ (b : Bool). t0 ++ ((if b then [] else letters rest (value / 64)) ++ letter (value % 64) ∷ [])) (sym less)
    ∙ ap (λ (k : ℕ). t0 ++ letters k value) (sym (add-one rest) ∙ is)

pub words_none : (t : List ℕ) (m : Recorded) → t ≡ t ++ words_text 0 m
unfolding words_text
words_none t m = sym (append-nil t)

pub words_more : (t0 t1 t2 : List ℕ) (place : ℕ) (m : Recorded) → t1 ≡ t0 ++ words_text place m → t2 ≡ t1 ++ word_text (word_of m.bytes place) → t2 ≡ t0 ++ words_text (place + 1) m
unfolding words_text
words_more t0 t1 t2 place m e1 e2 =
    e2 ∙ ap (λ (l : List ℕ). l ++ word_text (word_of m.bytes place)) e1 ∙ append_assoc t0 (words_text place m) (word_text (word_of m.bytes place))
    ∙ ap (λ (k : ℕ). t0 ++ words_text k m) (sym (add-one place))

-- one more signal
there : {X : Type 0} (xs : List X) (i : ℕ) (x : X) → slice_get xs i ≡ Some x → drop i xs ≡ x ∷ drop (suc i) xs
there [] i x is = absurd cc
there (y ∷ ys) zero x is = let same : y ≡ x = cc in ap (λ z. z ∷ ys) same
there (y ∷ ys) (suc i) x is = there ys i x is

pub values_more : (t0 t1 all : List ℕ) (signals : List Signal) (i channel : ℕ) (s : Signal) (m : Recorded) → slice_get signals i ≡ Some s → t1 ≡ t0 ++ value_text i (text_in s channel m)
    → t0 ++ values_text (drop i signals) i channel m ≡ all → t1 ++ values_text (drop (i + 1) signals) (i + 1) channel m ≡ all
values_more t0 t1 all signals i channel s m is put so_far =
    let rest = values_text (drop (i + 1) signals) (i + 1) channel m in
    let cut : drop i signals ≡ s ∷ drop (i + 1) signals = rw add-one (there signals i s is) in
    ap (λ (l : List ℕ). l ++ rest) put ∙ append_assoc t0 (value_text i (text_in s channel m)) rest
    ∙ ap (λ (l : List Signal). t0 ++ values_text l i channel m) (sym cut) ∙ so_far
