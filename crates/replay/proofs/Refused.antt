-- The refused numbers of a report rise, so that one of them is found by halving.
use Rattle.std.proofs.Common.{◌≡◌, ℕ, zero, suc, ◌<◌, ◌≤◌, List, [], ◌∷◌, length, get_or, eqb, Result, Ok, Err, is_ok, sym, ⊎_elim, arith}
use Rattle.std.specs.Ordering.{nat_cmp}
use Rattle.std.specs.List.{list_any}
use Rattle.std.specs.List.Sorted.{IsBinarySearchResult}
use Rattle.std.proofs.lemmas.Bool.{eq-eqb, ne_eqb, cases_lt}
use Rattle.std.proofs.lemmas.Grind.{get_or_default_zero}
use Rattle.std.proofs.lemmas.List.Folds.{list_any_at, list_any_none}
use Rattle.std.proofs.lemmas.List.Sorted.{searched}
use Rattle.bench_report.specs.Reports.{Rises}

above_all : (above most : ℕ) (ns : List ℕ) → Rises above most ns → (j : ℕ) → j < length ns → above ≤ get_or ns j 0
above_all above most [] rises j less = absurd (omega (arith, less))
above_all above most (n ∷ ns) rises zero less = omega (arith, rises.0)
above_all above most (n ∷ ns) rises (suc j) less =
    let later : n ≤ get_or ns j 0 = above_all n most ns rises.2 j (omega (arith, less)) in
    omega (arith, rises.0, later)

in_order : (above most : ℕ) (ns : List ℕ) → Rises above most ns → (i j : ℕ) → i ≤ j → j < length ns → get_or ns i 0 ≤ get_or ns j 0
in_order above most [] rises i j low less = absurd (omega (arith, less))
in_order above most (n ∷ ns) rises zero zero low less = omega arith
in_order above most (n ∷ ns) rises zero (suc j) low less = above_all n most ns rises.2 j (omega (arith, less))
in_order above most (n ∷ ns) rises (suc i) zero low less = absurd (omega (arith, low))
in_order above most (n ∷ ns) rises (suc i) (suc j) low less = in_order n most ns rises.2 i j (omega (arith, low)) (omega (arith, less))

pub found : (most number : ℕ) (ns : List ℕ) (r : Result ℕ ℕ) → Rises 0 most ns → IsBinarySearchResult (λ y. nat_cmp y number) ns r
    → is_ok r ≡ list_any (λ (n : ℕ). eqb n number) ns
found most number ns (Ok i) rises answer =
    let at = searched ns number (Ok i) answer (in_order 0 most ns rises) in
    sym (list_any_at (λ (n : ℕ). eqb n number) ns i 0 at.0 (eq-eqb (get_or ns i 0) number at.1))
found most number ns (Err i) rises answer =
    let at = searched ns number (Err i) answer (in_order 0 most ns rises) in
    sym (list_any_none (λ (n : ℕ). eqb n number) ns (λ k d less.
    ne_eqb (get_or ns k d) number (λ same. ⊎_elim
    (λ before. absurd (omega (arith, at.1 k before, get_or_default k d less, same)))
    (λ from. absurd (omega (arith, at.2 k from less, get_or_default k d less, same)))
    (cases_lt k i))))
  where
    get_or_default : (k d : ℕ) → k < length ns → get_or ns k d ≡ get_or ns k 0
    get_or_default k d less = get_or_default_zero ns k d less
