-- Tallies of rules that are changed, rule by rule.
use Rattle.std.proofs.Common.{◌≡◌, ℕ, zero, suc, ◌+◌, ◌<◌, ◌≤◌, List, [], ◌∷◌, length, get_or, set, length-set, refl, ap, sym, ◌∙◌, subst, inl, inr, arith}
use Rattle.std.specs.Prelude.{Some, slice_get}
use Rattle.std.proofs.lemmas.Bool.{cases_eq}
use Rattle.std.proofs.lemmas.Option.{slice_get-get_or, slice_get_within}

get_set_same : {X : Type 0} (xs : List X) (i : ℕ) (a : X) → i < length xs → slice_get (set xs i a) i ≡ Some a
get_set_same [] i a within = absurd (omega arith)
get_set_same (x ∷ xs) zero a within = refl
get_set_same (x ∷ xs) (suc i) a within = get_set_same xs i a (omega arith)

get_set_other : {X : Type 0} (xs : List X) (i k : ℕ) (a : X) → (k ≡ i → ⊥) → slice_get (set xs i a) k ≡ slice_get xs k
get_set_other [] i k a other = refl
get_set_other (x ∷ xs) zero zero a other = absurd (other refl)
get_set_other (x ∷ xs) zero (suc k) a other = refl
get_set_other (x ∷ xs) (suc i) zero a other = refl
get_set_other (x ∷ xs) (suc i) (suc k) a other = get_set_other xs i k a (λ e. other (ap suc e))

some_same : {X : Type 0} (x y : X) → Some x ≡ Some y → x ≡ y
some_same x y is = cc

-- what an index reads is there
pub found_there : {X : Type 0} (xs : List X) (i : ℕ) (x : X) → i < length xs → x ≡ get_or xs i x → slice_get xs i ≡ Some x
found_there {X} xs i x within is = slice_get-get_or xs i x within ∙ ap (λ (y : X). Some y) (sym is)

-- what is known of the tallies of the first rules, and of the others
pub record IsNoting {R T : Type 0} (before after : R → T → Type 0) (rules : List R) (tallies : List T) (i : ℕ) : Type 0 where
  pub many : length tallies ≡ length rules
  pub noted : (k : ℕ) (rule : R) (tally : T) → k < i → slice_get rules k ≡ Some rule → slice_get tallies k ≡ Some tally → after rule tally
  pub rest : (k : ℕ) (rule : R) (tally : T) → i ≤ k → slice_get rules k ≡ Some rule → slice_get tallies k ≡ Some tally → before rule tally

pub noting-none : {R T : Type 0} (before after : R → T → Type 0) (rules : List R) (tallies : List T) → length tallies ≡ length rules
    → ((k : ℕ) (rule : R) (tally : T) → slice_get rules k ≡ Some rule → slice_get tallies k ≡ Some tally → before rule tally) → IsNoting before after rules tallies 0
noting-none before after rules tallies many each = record {
  many = many;
  noted = λ k rule tally below. absurd (omega arith);
  rest = λ k rule tally above. each k rule tally;
}

pub noting-all : {R T : Type 0} (before after : R → T → Type 0) (rules : List R) (tallies : List T) (i : ℕ) → length rules ≤ i → IsNoting before after rules tallies i → (k : ℕ) (rule : R) (tally : T) → slice_get rules k ≡ Some rule
    → slice_get tallies k ≡ Some tally → after rule tally
noting-all before after rules tallies i past is k rule tally there = is.noted k rule tally (let within : k < length rules = slice_get_within rules k rule there in omega arith) there

pub noting-more : {R T : Type 0} (before after : R → T → Type 0) (rules : List R) (tallies : List T) (i : ℕ) (rule : R) (tally : T) → IsNoting before after rules tallies i → slice_get rules i ≡ Some rule → after rule tally
    → IsNoting before after rules (set tallies i tally) (i + 1)
noting-more {R} before after rules tallies i rule tally is there one = record {
  many = length-set tallies i tally ∙ is.many;
  noted = λ k other found below has got. elim (cases_eq k i) [
    | inl e ↦
        let same_rule : rule ≡ other = some_same rule other (sym there ∙ ap (slice_get rules) (sym e) ∙ has) in
        let same_tally : tally ≡ found = some_same tally found (sym (get_set_same tallies i tally within) ∙ ap (slice_get (set tallies i tally)) (sym e) ∙ got) in
        subst (λ (r : R). after r found) same_rule (subst (after rule) same_tally one)
    | inr n ↦ is.noted k other found (omega (arith, below, n)) has (sym (get_set_other tallies i k tally n) ∙ got)
  ];
  rest = λ k other found above has got.
      let n : k ≡ i → ⊥ = λ (e : k ≡ i). absurd (omega arith) in
      is.rest k other found (omega arith) has (sym (get_set_other tallies i k tally n) ∙ got);
}
  where
    within : i < length tallies
    within = let w : i < length rules = slice_get_within rules i rule there in omega (arith, is.many)
