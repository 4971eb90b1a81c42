-- One more message for a rule about a signal.
use Rattle.std.proofs.Common.{◌≡◌, suc, ◌+◌, ◌≤◌, List, [], ◌∷◌, ◌++◌, length, reverse, refl, ap, ◌∙◌, arith}
use Rattle.std.specs.Prelude.{Bool, true, false, not, map}
use Rattle.std.specs.List.{filter}
use Rattle.std.proofs.lemmas.List.{reverse-append}
use Rattle.bench_judge.specs.Selection.{Origins}
use Rattle.bench_judge.specs.declared.verdicts.Miss.{Miss}
use Rattle.bench_judge.specs.Verdicts.{Moment, moments, miss_of}
use Rattle.bench_select.specs.Viewed.{Viewed}
use Rattle.signal_judge.specs.declared.rules.SignalRule.{SignalRule}
use Rattle.signal_judge.specs.Verdicts.{selects, meets, is_selected, is_miss, selected, missed, misses}

filter_skip : {X : Type 0} (p : X → Bool) (x : X) (xs : List X) → p x ≡ false → filter p (x ∷ xs) ≡ filter p xs
filter_skip p x xs is = rw is refl

filter_take : {X : Type 0} (p : X → Bool) (x : X) (xs : List X) → p x ≡ true → filter p (x ∷ xs) ≡ x ∷ filter p xs
filter_take p x xs is = rw is refl

abbrev pub moment : Viewed → List Viewed → Moment
moment h earlier = record { number = length earlier + 1; channel = h.0; message = h.1; earlier = earlier }

-- a message that is not selected
pub selected-skip : (r : SignalRule) (origins : Origins) (h : Viewed) (history : List Viewed) → selects r origins h.0 h.1 ≡ false → selected r origins (h ∷ history) ≡ selected r origins history
selected-skip r origins h history is = filter_skip (is_selected r origins) (moment h history) (moments history) is

pub missed-skip : (r : SignalRule) (origins : Origins) (h : Viewed) (history : List Viewed) → selects r origins h.0 h.1 ≡ false → missed r origins (h ∷ history) ≡ missed r origins history
missed-skip r origins h history is = ap (filter (is_miss r origins)) (selected-skip r origins h history is)

abbrev pub told_of : List Moment → List Miss
told_of xs = reverse (map miss_of xs)

pub misses-skip : (r : SignalRule) (origins : Origins) (h : Viewed) (history : List Viewed) → selects r origins h.0 h.1 ≡ false → misses r origins (h ∷ history) ≡ misses r origins history
misses-skip r origins h history is = ap told_of (missed-skip r origins h history is)

-- one that is
pub selected-take : (r : SignalRule) (origins : Origins) (h : Viewed) (history : List Viewed) → selects r origins h.0 h.1 ≡ true → selected r origins (h ∷ history) ≡ moment h history ∷ selected r origins history
selected-take r origins h history is = filter_take (is_selected r origins) (moment h history) (moments history) is

pub selected-more : (r : SignalRule) (origins : Origins) (h : Viewed) (history : List Viewed) → selects r origins h.0 h.1 ≡ true → length (selected r origins (h ∷ history)) ≡ length (selected r origins history) + 1
selected-more r origins h history is = omega (arith, ap length (selected-take r origins h history is))

length-moments : (history : List Viewed) → length (moments history) ≡ length history
length-moments [] = refl
length-moments (h ∷ history) = ap suc (length-moments history)

length-filter-le : {X : Type 0} (p : X → Bool) (xs : List X) → length (filter p xs) ≤ length xs
length-filter-le p [] = omega arith
length-filter-le p (x ∷ xs) = go (p x) refl (length-filter-le p xs)
  where
    go : (b : Bool) → p x ≡ b → length (filter p xs) ≤ length xs → length (filter p (x ∷ xs)) ≤ length (x ∷ xs)
    go true is le = rw is (omega (arith, le))
    go false is le = rw is (omega (arith, le))

pub few-selected : (r : SignalRule) (origins : Origins) (history : List Viewed) → length (selected r origins history) ≤ length history
few-selected r origins history = omega (arith, length-filter-le (is_selected r origins) (moments history), length-moments history)

not_true : (b : Bool) → b ≡ true → not b ≡ false
not_true true is = refl
not_true false is = cc

not_false : (b : Bool) → b ≡ false → not b ≡ true
not_false false is = refl
not_false true is = cc

pub missed-met : (r : SignalRule) (origins : Origins) (h : Viewed) (history : List Viewed) → selects r origins h.0 h.1 ≡ true → meets r origins history h.0 h.1 ≡ true → missed r origins (h ∷ history) ≡ missed r origins history
missed-met r origins h history is met =
    ap (filter (is_miss r origins)) (selected-take r origins h history is)
    ∙ filter_skip (is_miss r origins) (moment h history) (selected r origins history) (not_true (meets r origins history h.0 h.1) met)

pub missed-take : (r : SignalRule) (origins : Origins) (h : Viewed) (history : List Viewed) → selects r origins h.0 h.1 ≡ true → meets r origins history h.0 h.1 ≡ false
    → missed r origins (h ∷ history) ≡ moment h history ∷ missed r origins history
missed-take r origins h history is missing =
    ap (filter (is_miss r origins)) (selected-take r origins h history is)
    ∙ filter_take (is_miss r origins) (moment h history) (selected r origins history) (not_false (meets r origins history h.0 h.1) missing)

pub misses-met : (r : SignalRule) (origins : Origins) (h : Viewed) (history : List Viewed) → selects r origins h.0 h.1 ≡ true → meets r origins history h.0 h.1 ≡ true → misses r origins (h ∷ history) ≡ misses r origins history
misses-met r origins h history is met = ap told_of (missed-met r origins h history is met)

pub misses-more : (r : SignalRule) (origins : Origins) (h : Viewed) (history : List Viewed) → selects r origins h.0 h.1 ≡ true → meets r origins history h.0 h.1 ≡ false
    → misses r origins (h ∷ history) ≡ misses r origins history ++ miss_of (moment h history) ∷ []
misses-more r origins h history is missing =
    ap told_of (missed-take r origins h history is missing) ∙ reverse-append (miss_of (moment h history) ∷ []) (map miss_of (missed r origins history))

-- how many there are: fewer than messages
pub few-missed : (r : SignalRule) (origins : Origins) (history : List Viewed) → length (missed r origins history) ≤ length history
few-missed r origins history = omega (arith, length-filter-le (is_miss r origins) (selected r origins history), few-selected r origins history)
