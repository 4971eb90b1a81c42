-- An action put into an ordered list, behind those of its number.
use Rattle.std.proofs.Common.{◌≡◌, ℕ, zero, suc, ◌<◌, ◌≤◌, Bool, true, false, cond, eqb, List, [], ◌∷◌, ◌++◌, refl, sym, ap, ◌∙◌, append-nil, arith}
use Rattle.std.specs.List.{AllByRecursion, insert}
use Rattle.std.proofs.lemmas.Bool.{eqb-true, ne_eqb}
use Rattle.std.proofs.lemmas.List.Elements.{filter-append, All-from_recursion, recursion_from_All}
use Rattle.bc_machine.specs.declared.placed.Placed.{Placed}
use Rattle.bc_machine.specs.Controller.{placed_at}
use Rattle.bc_machine.specs.Rising.{IsParted}
use Rattle.bench_report.specs.Reports.{IsPlace, NeverFalls}
use Rattle.bench_settings.specs.Placing.{placed_up_to, IsOrdered}
use Rattle.bench_settings.proofs.Ordered.{up_to_same, up_to_itself, at_up_to}
use Rattle.bench_settings.proofs.Sorting.{up_to_last}

parted_behind : (number i : ℕ) (p : Placed) (ps : List Placed) → IsParted number (suc i) (p ∷ ps) → IsParted number i ps
parted_behind number i p ps parted = record {
  before = λ k d low high. parted.before (suc k) d (omega (arith, low)) (omega (arith, high));
  behind = λ k d low high. parted.behind (suc k) d (omega (arith, low)) (omega (arith, high));
}

-- all behind a place are above
above : (number : ℕ) (ps : List Placed) → IsParted number 0 ps → AllByRecursion (λ (p : Placed). number < p.number) ps
above number ps parted = recursion_from_All (λ (p : Placed). number < p.number) ps (λ k d low. parted.behind k d (omega arith) low)

none_at : (k : ℕ) (ps : List Placed) → AllByRecursion (λ (p : Placed). k < p.number) ps → placed_at k ps ≡ []
none_at k [] all = refl
none_at k (p ∷ ps) all = ap (λ (b : Bool). cond b (p ∷ placed_at k ps) (placed_at k ps)) (ne_eqb p.number k (λ same. absurd (omega (arith, all.0, same)))) ∙ none_at k ps all.1

first_at : (k : ℕ) (x : Placed) (ps : List Placed) (b : Bool) → eqb x.number k ≡ b → AllByRecursion (λ (p : Placed). x.number < p.number) ps
    → cond b (x ∷ placed_at k ps) (placed_at k ps) ≡ placed_at k ps ++ cond b (x ∷ []) []
first_at k x ps true e all = let none : placed_at k ps ≡ [] = rw (sym (eqb-true x.number k e)) (none_at x.number ps all) in rw none refl
first_at k x ps false e all = sym (append-nil (placed_at k ps))

more_at : (k : ℕ) (p : Placed) (b : Bool) (us vs ws : List Placed) → us ≡ vs ++ ws → cond b (p ∷ us) us ≡ cond b (p ∷ vs) vs ++ ws
more_at k p true us vs ws e = ap (λ l. p ∷ l) e
more_at k p false us vs ws e = e

-- at each number it has one action more where that is the number's
pub added_at : (k i : ℕ) (x : Placed) (ps : List Placed) → IsParted x.number i ps → placed_at k (insert ps i x) ≡ placed_at k ps ++ placed_at k (x ∷ [])
added_at k zero x ps parted = first_at k x ps (eqb x.number k) refl (above x.number ps parted)
added_at k (suc i) x [] parted = refl
added_at k (suc i) x (p ∷ ps) parted =
    more_at k p (eqb p.number k) (placed_at k (insert ps i x)) (placed_at k ps) (placed_at k (x ∷ [])) (added_at k i x ps (parted_behind x.number i p ps parted))

first_order : (number : ℕ) (ps : List Placed) (least : ℕ) → NeverFalls least ps → AllByRecursion (λ (p : Placed). number < p.number) ps → NeverFalls number ps
first_order number [] least order all = tt
first_order number (p ∷ ps) least order all = (omega (arith, all.0), order.1)

pub added_order : (least i : ℕ) (x : Placed) (ps : List Placed) → least ≤ x.number → NeverFalls least ps → IsParted x.number i ps → NeverFalls least (insert ps i x)
added_order least zero x ps low order parted = (low, first_order x.number ps least order (above x.number ps parted))
added_order least (suc i) x [] low order parted = (low, tt)
added_order least (suc i) x (p ∷ ps) low order parted =
    (order.0, added_order p.number i x ps (parted.before 0 p (omega arith) (omega arith)) order.1 (parted_behind x.number i p ps parted))

pub added_places : (i : ℕ) (x : Placed) (ps : List Placed) → IsPlace x → AllByRecursion IsPlace ps → AllByRecursion IsPlace (insert ps i x)
added_places zero x ps is all = (is, all)
added_places (suc i) x [] is all = (is, tt)
added_places (suc i) x (p ∷ ps) is all = (all.0, added_places i x ps is all.1)

pub added_ordered : (i : ℕ) (x : Placed) (ps : List Placed) → IsPlace x → IsOrdered ps → IsParted x.number i ps → IsOrdered (insert ps i x)
added_ordered i x ps is ordered parted = record {
  places = All-from_recursion IsPlace (insert ps i x) (added_places i x ps is (recursion_from_All IsPlace ps ordered.places));
  order = added_order 0 i x ps (omega arith) ordered.order parted;
}

-- it is the order of the actions with one more behind them
pub added_is : (i : ℕ) (x : Placed) (ps actions : List Placed) → IsPlace x → IsOrdered ps → IsParted x.number i ps → ps ≡ placed_up_to 1000000 actions
    → insert ps i x ≡ placed_up_to 1000000 (actions ++ x ∷ [])
added_is i x ps actions is ordered parted same =
    let new = added_ordered i x ps is ordered parted in
    sym (up_to_itself 1000000 0 (insert ps i x) new.order (up_to_last (insert ps i x) (recursion_from_All IsPlace (insert ps i x) new.places)))
    ∙ up_to_same 1000000 (insert ps i x) (actions ++ x ∷ []) (λ k low high.
    added_at k i x ps parted
    ∙ ap (λ (l : List Placed). l ++ placed_at k (x ∷ [])) (ap (placed_at k) same ∙ at_up_to k 1000000 actions low high)
    ∙ sym (filter-append (λ (p : Placed). eqb p.number k) actions (x ∷ [])))
