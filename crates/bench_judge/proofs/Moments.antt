-- One more message for a tally.
use Rattle.std.proofs.Common.{◌≡◌, suc, ◌+◌, ◌≤◌, List, [], ◌∷◌, ◌++◌, length, reverse, cond, refl, ap, ◌∙◌, arith}
use Rattle.std.specs.Prelude.{Bool, true, false, not, map}
use Rattle.std.specs.List.{filter}
use Rattle.std.proofs.lemmas.List.{reverse-append}
use Rattle.judge_rules.specs.declared.rules.Rule.{Rule}
use Rattle.bench_judge.specs.declared.verdicts.Miss.{Miss}
use Rattle.bench_judge.specs.Selection.{Origins, selects}
use Rattle.bench_judge.specs.Checks.{is_counted, meets}
use Rattle.bench_select.specs.Viewed.{Viewed}
use Rattle.bench_judge.specs.Verdicts.{Moment, moments, latest, is_selected, is_miss, selected, counted, missed, misses, miss_of}

filter_skip : {X : Type 0} (p : X → Bool) (x : X) (xs : List X) → p x ≡ false → filter p (x ∷ xs) ≡ filter p xs
filter_skip p x xs is = rw is refl

filter_take : {X : Type 0} (p : X → Bool) (x : X) (xs : List X) → p x ≡ true → filter p (x ∷ xs) ≡ x ∷ filter p xs
filter_take p x xs is = rw is refl

abbrev pub moment : Viewed → List Viewed → Moment
moment h earlier = record { number = length earlier + 1; channel = h.0; message = h.1; earlier = earlier }

-- a message that is not selected
pub selected-skip : (rule : Rule) (origins : Origins) (h : Viewed) (history : List Viewed) → selects rule origins h.0 h.1 ≡ false → selected rule origins (h ∷ history) ≡ selected rule origins history
selected-skip rule origins h history is = filter_skip (is_selected rule origins) (moment h history) (moments history) is

pub missed-skip : (rule : Rule) (origins : Origins) (h : Viewed) (history : List Viewed) → selects rule origins h.0 h.1 ≡ false → missed rule origins (h ∷ history) ≡ missed rule origins history
missed-skip rule origins h history is = ap (filter (is_miss rule origins)) (selected-skip rule origins h history is)

abbrev pub told_of : List Moment → List Miss
told_of xs = reverse (map miss_of xs)

pub misses-skip : (rule : Rule) (origins : Origins) (h : Viewed) (history : List Viewed) → selects rule origins h.0 h.1 ≡ false → misses rule origins (h ∷ history) ≡ misses rule origins history
misses-skip rule origins h history is = ap told_of (missed-skip rule origins h history is)

-- one that is
pub selected-take : (rule : Rule) (origins : Origins) (h : Viewed) (history : List Viewed) → selects rule origins h.0 h.1 ≡ true → selected rule origins (h ∷ history) ≡ moment h history ∷ selected rule origins history
selected-take rule origins h history is = filter_take (is_selected rule origins) (moment h history) (moments history) is

pub selected-more : (rule : Rule) (origins : Origins) (h : Viewed) (history : List Viewed) → selects rule origins h.0 h.1 ≡ true → length (selected rule origins (h ∷ history)) ≡ length (selected rule origins history) + 1
selected-more rule origins h history is = omega (arith, ap length (selected-take rule origins h history is))

length-moments : (history : List Viewed) → length (moments history) ≡ length history
length-moments [] = refl
length-moments (h ∷ history) = ap suc (length-moments history)

length-filter-le : {X : Type 0} (p : X → Bool) (xs : List X) → length (filter p xs) ≤ length xs
length-filter-le p [] = omega arith
length-filter-le p (x ∷ xs) = go (p x) refl (length-filter-le p xs)
  where
    go : (b : Bool) → p x ≡ b → length (filter p xs) ≤ length xs → length (filter p (x ∷ xs)) ≤ length (x ∷ xs)
    go true is le = rw is (omega (arith, le))
    go false is le = rw is (omega (arith, le))

pub few-selected : (rule : Rule) (origins : Origins) (history : List Viewed) → length (selected rule origins history) ≤ length history
few-selected rule origins history = omega (arith, length-filter-le (is_selected rule origins) (moments history), length-moments history)

not_true : (b : Bool) → b ≡ true → not b ≡ false
not_true true is = refl
not_true false is = cc

not_false : (b : Bool) → b ≡ false → not b ≡ true
not_false false is = refl
not_false true is = cc

pub missed-met : (rule : Rule) (origins : Origins) (h : Viewed) (history : List Viewed) → selects rule origins h.0 h.1 ≡ true → meets rule.check (latest rule origins h.0 history) h.1 ≡ true → missed rule origins (h ∷ history) ≡ missed rule origins history
missed-met rule origins h history is met =
    ap (filter (is_miss rule origins)) (selected-take rule origins h history is)
    ∙ filter_skip (is_miss rule origins) (moment h history) (selected rule origins history) (not_true (meets rule.check (latest rule origins h.0 history) h.1) met)

pub missed-take : (rule : Rule) (origins : Origins) (h : Viewed) (history : List Viewed) → selects rule origins h.0 h.1 ≡ true → meets rule.check (latest rule origins h.0 history) h.1 ≡ false
    → missed rule origins (h ∷ history) ≡ moment h history ∷ missed rule origins history
missed-take rule origins h history is missing =
    ap (filter (is_miss rule origins)) (selected-take rule origins h history is)
    ∙ filter_take (is_miss rule origins) (moment h history) (selected rule origins history) (not_false (meets rule.check (latest rule origins h.0 history) h.1) missing)

pub misses-met : (rule : Rule) (origins : Origins) (h : Viewed) (history : List Viewed) → selects rule origins h.0 h.1 ≡ true → meets rule.check (latest rule origins h.0 history) h.1 ≡ true → misses rule origins (h ∷ history) ≡ misses rule origins history
misses-met rule origins h history is met = ap told_of (missed-met rule origins h history is met)

pub misses-more : (rule : Rule) (origins : Origins) (h : Viewed) (history : List Viewed) → selects rule origins h.0 h.1 ≡ true → meets rule.check (latest rule origins h.0 history) h.1 ≡ false
    → misses rule origins (h ∷ history) ≡ misses rule origins history ++ miss_of (moment h history) ∷ []
misses-more rule origins h history is missing =
    ap told_of (missed-take rule origins h history is missing) ∙ reverse-append (miss_of (moment h history) ∷ []) (map miss_of (missed rule origins history))

-- how many there are: fewer than messages
pub few-missed : (rule : Rule) (origins : Origins) (history : List Viewed) → length (missed rule origins history) ≤ length history
few-missed rule origins history = omega (arith, length-filter-le (is_miss rule origins) (selected rule origins history), few-selected rule origins history)

pub few-counted : (rule : Rule) (origins : Origins) (history : List Viewed) → length (counted rule origins history) ≤ length history
few-counted rule origins history = omega (arith, length-filter-le (λ (x : Moment). is_counted rule.check x.message) (selected rule origins history), few-selected rule origins history)

-- one more, where the next one passes a test
pub filter_one : {X : Type 0} (p : X → Bool) (x : X) (xs : List X) → length (filter p (x ∷ xs)) ≡ length (filter p xs) + cond (p x) 1 0
filter_one p x xs = go (p x) refl
  where
    go : (b : Bool) → p x ≡ b → length (filter p (x ∷ xs)) ≡ length (filter p xs) + cond b 1 0
    go true is = rw is (omega arith)
    go false is = rw is (omega arith)

pub counted-next : (rule : Rule) (origins : Origins) (h : Viewed) (history : List Viewed) → selects rule origins h.0 h.1 ≡ true → length (counted rule origins (h ∷ history)) ≡ length (counted rule origins history) + cond (is_counted rule.check h.1) 1 0
counted-next rule origins h history is =
    let test = λ (x : Moment). is_counted rule.check x.message in
    ap (λ (xs : List Moment). length (filter test xs)) (selected-take rule origins h history is) ∙ filter_one test (moment h history) (selected rule origins history)

pub missed-next : (rule : Rule) (origins : Origins) (h : Viewed) (history : List Viewed) → selects rule origins h.0 h.1 ≡ true
    → length (missed rule origins (h ∷ history)) ≡ length (missed rule origins history) + cond (not (meets rule.check (latest rule origins h.0 history) h.1)) 1 0
missed-next rule origins h history is =
    ap (λ (xs : List Moment). length (filter (is_miss rule origins) xs)) (selected-take rule origins h history is) ∙ filter_one (is_miss rule origins) (moment h history) (selected rule origins history)

-- a message that is not selected is not counted
pub counted-skip : (rule : Rule) (origins : Origins) (h : Viewed) (history : List Viewed) → selects rule origins h.0 h.1 ≡ false → counted rule origins (h ∷ history) ≡ counted rule origins history
counted-skip rule origins h history is = ap (filter (λ (x : Moment). is_counted rule.check x.message)) (selected-skip rule origins h history is)
