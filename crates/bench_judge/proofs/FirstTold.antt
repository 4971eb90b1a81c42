-- What is told of the first messages that miss a rule.
use Rattle.std.proofs.Common.{◌≡◌, ℕ, ◌-◌, ◌<◌, ◌≤◌, List, [], ◌∷◌, ◌++◌, length, take, reverse, refl, ap, sym, ◌∙◌, arith, append-nil, length-append, subst, inl, inr}
use Rattle.std.specs.Prelude.{Bool, true, false, Option}
use Rattle.std.proofs.lemmas.Bool.{cases_eq}
use Rattle.std.specs.List.{flat_map}
use Rattle.std.proofs.lemmas.Grind.{flat_map-append}
use Rattle.std.proofs.lemmas.List.{length-reverse, reverse-append, take-append-le, take_all}
use Rattle.judge_rules.specs.declared.rules.Rule.{Rule}
use Rattle.bench_judge.specs.declared.telling.Telling.{Telling}
use Rattle.bench_judge.specs.declared.verdicts.Miss.{Miss}
use Rattle.bench_judge.specs.Selection.{Origins, selects}
use Rattle.bench_judge.specs.Checks.{meets}
use Rattle.bench_judge.specs.Told.{told_at, told_moment}
use Rattle.bench_select.specs.Viewed.{Viewed}
use Rattle.bench_judge.specs.Verdicts.{Moment, latest, miss_of, missed}
use Rattle.bench_judge.specs.Tallies.{IsPut, IsTally, IsTelling, misses_next}
use Rattle.bench_judge.proofs.Moments.{moment, missed-met, missed-skip, missed-take}
use Rattle.bench_judge.proofs.Tallying.{next-skip, next-met, next-missed}

-- the first so many of a list with one more: the same, or one more
pub take_full : {X : Type 0} (n : ℕ) (xs : List X) (x : X) → n ≤ length xs → take n (xs ++ x ∷ []) ≡ take n xs
take_full n xs x full = take-append-le n xs (x ∷ []) full

pub take_one : {X : Type 0} (n : ℕ) (xs : List X) (x : X) → length xs < n → take n (xs ++ x ∷ []) ≡ take n xs ++ x ∷ []
take_one {X} n xs x room =
    take_all n (xs ++ x ∷ []) (omega (arith, room, length-append xs (x ∷ []))) ∙ ap (λ (l : List X). l ++ x ∷ []) (sym (take_all n xs (omega (arith, room))))

-- what is told of one more element of a list
pub told_one : {X : Type 0} (tell : X → List ℕ) (n : ℕ) (xs : List X) (x : X) → length xs < n → flat_map tell (take n (xs ++ x ∷ [])) ≡ flat_map tell (take n xs) ++ tell x
told_one tell n xs x room =
    ap (flat_map tell) (take_one n xs x room) ∙ flat_map-append tell (take n xs) (x ∷ []) ∙ ap (λ (l : List ℕ). flat_map tell (take n xs) ++ l) (append-nil (tell x))

-- the next message does not miss the rule, or it does
pub missed-stay : (rule : Rule) (origins : Origins) (h : Viewed) (history : List Viewed) → false ≡ misses_next rule origins history h → missed rule origins (h ∷ history) ≡ missed rule origins history
missed-stay rule origins h history stays = go (selects rule origins h.0 h.1) refl (meets rule.check (latest rule origins h.0 history) h.1) refl
  where
    go : (s : Bool) → selects rule origins h.0 h.1 ≡ s → (m : Bool) → meets rule.check (latest rule origins h.0 history) h.1 ≡ m → missed rule origins (h ∷ history) ≡ missed rule origins history
    go false is m met = missed-skip rule origins h history is
    go true is true met = missed-met rule origins h history is met
    go true is false met = let bad : false ≡ true = stays ∙ sym (next-missed rule origins h history is met) in absurd cc

pub missed-grow : (rule : Rule) (origins : Origins) (h : Viewed) (history : List Viewed) → true ≡ misses_next rule origins history h → missed rule origins (h ∷ history) ≡ moment h history ∷ missed rule origins history
missed-grow rule origins h history grows = go (selects rule origins h.0 h.1) refl (meets rule.check (latest rule origins h.0 history) h.1) refl
  where
    go : (s : Bool) → selects rule origins h.0 h.1 ≡ s → (m : Bool) → meets rule.check (latest rule origins h.0 history) h.1 ≡ m → missed rule origins (h ∷ history) ≡ moment h history ∷ missed rule origins history
    go false is m met = let bad : true ≡ false = grows ∙ sym (next-skip rule origins h history is) in absurd cc
    go true is true met = let bad : true ≡ false = grows ∙ sym (next-met rule origins h history is met) in absurd cc
    go true is false met = missed-take rule origins h history is met

in_order : (rule : Rule) (origins : Origins) (h : Viewed) (history : List Viewed) → true ≡ misses_next rule origins history h → reverse (missed rule origins (h ∷ history)) ≡ reverse (missed rule origins history) ++ moment h history ∷ []
in_order rule origins h history grows = ap reverse (missed-grow rule origins h history grows) ∙ reverse-append (moment h history ∷ []) (missed rule origins history)

pub telling-none : (rule : Rule) (origins : Origins) (most : ℕ) (telling : Telling) → IsTally rule origins [] telling.tally → telling.text.items ≡ [] → telling.left ≡ most → IsTelling rule origins most [] telling
telling-none rule origins most telling is none left = record {
  tallied = is;
  told = none ∙ sym (ap (flat_map (told_moment rule origins)) (take_all most [] (omega arith)));
  left = omega (arith, left);
}

pub telling-skip : (rule : Rule) (origins : Origins) (most : ℕ) (h : Viewed) (history : List Viewed) (telling next : Telling) → IsTelling rule origins most history telling → false ≡ misses_next rule origins history h
    → IsTally rule origins (h ∷ history) next.tally → next.text.items ≡ telling.text.items → next.left ≡ telling.left → IsTelling rule origins most (h ∷ history) next
telling-skip rule origins most h history telling next t stays is same left =
    let kept = missed-stay rule origins h history stays in record {
      tallied = is;
      told = same ∙ t.told ∙ ap (λ (xs : List Moment). flat_map (told_moment rule origins) (take most (reverse xs))) (sym kept);
      left = left ∙ t.left ∙ ap (λ (xs : List Moment). most - length xs) (sym kept);
    }

-- no more are told
pub telling-full : (rule : Rule) (origins : Origins) (most : ℕ) (h : Viewed) (history : List Viewed) (telling next : Telling) → IsTelling rule origins most history telling → true ≡ misses_next rule origins history h → telling.left ≡ 0
    → IsTally rule origins (h ∷ history) next.tally → next.text.items ≡ telling.text.items → next.left ≡ telling.left → IsTelling rule origins most (h ∷ history) next
telling-full rule origins most h history telling next t grows full is same left =
    let many : most ≤ length (missed rule origins history) = omega (arith, t.left, full) in
    let all : most ≤ length (reverse (missed rule origins history)) = omega (arith, many, length-reverse (missed rule origins history)) in record {
      tallied = is;
      told = same ∙ t.told ∙ ap (flat_map (told_moment rule origins)) (sym (ap (take most) (in_order rule origins h history grows) ∙ take_full most (reverse (missed rule origins history)) (moment h history) all));
      left = omega (arith, left, full, many, ap length (missed-grow rule origins h history grows));
    }

-- one more is told
pub telling-more : (rule : Rule) (origins : Origins) (most : ℕ) (h : Viewed) (history : List Viewed) (telling next : Telling) → IsTelling rule origins most history telling → true ≡ misses_next rule origins history h → 0 < telling.left
    → IsTally rule origins (h ∷ history) next.tally → next.text.items ≡ telling.text.items ++ told_moment rule origins (moment h history) → next.left ≡ telling.left - 1 → IsTelling rule origins most (h ∷ history) next
telling-more rule origins most h history telling next t grows some is put left =
    let few : length (missed rule origins history) < most = omega (arith, t.left, some) in
    let room : length (reverse (missed rule origins history)) < most = omega (arith, few, length-reverse (missed rule origins history)) in record {
      tallied = is;
      told =
          put
          ∙ ap (λ (l : List ℕ). l ++ told_moment rule origins (moment h history)) t.told
          ∙ sym (
          ap (λ (xs : List Moment). flat_map (told_moment rule origins) (take most xs)) (in_order rule origins h history grows)
          ∙ told_one (told_moment rule origins) most (reverse (missed rule origins history)) (moment h history) room
          );
      left = omega (arith, left, t.left, some, ap length (missed-grow rule origins h history grows));
    }

-- a message that misses the rule was told where one more was to be told
pub telling-put : (rule : Rule) (origins : Origins) (most : ℕ) (h : Viewed) (history : List Viewed) (telling mid next : Telling) (miss : Miss) (before : Option ℕ) → IsTelling rule origins most history telling → true ≡ misses_next rule origins history h
    → IsTally rule origins (h ∷ history) mid.tally → mid.text.items ≡ telling.text.items → mid.left ≡ telling.left → miss ≡ miss_of (moment h history) → before ≡ latest rule origins h.0 history → IsPut (told_at miss rule.check before h.1) mid next
    → IsTelling rule origins most (h ∷ history) next
telling-put rule origins most h history telling mid next miss before t grows is same left told_is before_is put = elim (cases_eq telling.left 0) [
  | inl none ↦
      let kept = put.full (left ∙ none) in
      telling-full rule origins most h history telling next t grows none (subst (IsTally rule origins (h ∷ history)) (sym put.tally) is) (kept.0 ∙ same) (kept.1 ∙ left)
  | inr some ↦
      let more : 0 < telling.left = omega (arith, some) in
      let made = put.some (omega (arith, left, more)) in
      telling-more rule origins most h history telling next t grows more (subst (IsTally rule origins (h ∷ history)) (sym put.tally) is)
      (made.0 ∙ ap (λ (l : List ℕ). l ++ told_at miss rule.check before h.1) same ∙ ap (λ (x : Miss). telling.text.items ++ told_at x rule.check before h.1) told_is ∙ ap (λ (b : Option ℕ). telling.text.items ++ told_at (miss_of (moment h history)) rule.check b h.1) before_is)
      (made.1 ∙ ap (λ (n : ℕ). n - 1) left)
]
