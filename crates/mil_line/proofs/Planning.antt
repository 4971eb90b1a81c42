-- One more fault in a plan.
use Rattle.std.proofs.Common.{◌≡◌, ◌≢◌, ℕ, ◌<◌, ◌≤◌, ◌==◌, true, false, Bool, cond, List, [], ◌∷◌, ◌++◌, length, Some, None, refl, ap, subst, sym, ◌∙◌, arith, append-nil, append_assoc, if◌then◌else◌}
use Rattle.std.specs.List.{list_all, filter_map, AllZip}
use Rattle.std.specs.BTreeMap.{BTreeMap, is_at}
use Rattle.std.specs.Ordering.{nat_cmp}
use Rattle.std.specs.Map.{lookup}
use Rattle.std.proofs.lemmas.Bool.{eqb-true, eqb-false, false≢true}
use Rattle.std.proofs.lemmas.List.{get_or_append_left, length-append}
use Rattle.std.proofs.lemmas.List.Elements.{filter_map-append, same_from_all_zip}
use Rattle.std.proofs.lemmas.List.Folds.{list_all-append}
use Rattle.std.proofs.lemmas.Map.Entries.{entries_from_clone}
use Rattle.arrayvec.specs.ArrayVec.{ArrayVec}
use Rattle.mil_line.specs.declared.faults.Fault.{Fault}
use Rattle.mil_line.specs.Plans.{Planned, fault_of, faults_of}
use Rattle.mil_line.specs.Ranges.{is_in_range}
use Rattle.mil_line.specs.StandsFor.{items_in, late_of, AreFaultsByNumber, HasOneMore, IsBehind}

with_one : (same : Bool) (number : ℕ) (fault : Fault) (xs : List Fault) → xs ++ filter_map (λ (p : Planned). if same then Some p.1 else None) ((number, fault) ∷ []) ≡ cond same (xs ++ fault ∷ []) xs
with_one true number fault xs = refl
with_one false number fault xs = append-nil xs

-- what a message has, where a fault was added for one
faults_more : (q number : ℕ) (fault : Fault) (plan : List Planned) → faults_of q (plan ++ (number, fault) ∷ []) ≡ cond (number == q) (faults_of q plan ++ fault ∷ []) (faults_of q plan)
faults_more q number fault plan = filter_map-append (fault_of q) plan ((number, fault) ∷ []) ∙ with_one (number == q) number fault (faults_of q plan)

all_more : (same : Bool) (fault : Fault) (xs : List Fault) → list_all is_in_range xs ≡ true → is_in_range fault ≡ true → list_all is_in_range (cond same (xs ++ fault ∷ []) xs) ≡ true
all_more true fault xs all one = list_all-append is_in_range xs (fault ∷ []) ∙ rw (all, one) refl
all_more false fault xs all one = all

few_more : (same : Bool) (fault : Fault) (xs : List Fault) → length xs ≤ 4 → (same ≡ true → length xs < 4) → length (cond same (xs ++ fault ∷ []) xs) ≤ 4
few_more true fault xs few less =
    let now : length xs < 4 = less refl in
    omega (arith, now, length-append xs (fault ∷ []))
few_more false fault xs few less = few

-- what is so of a list is so of those in front
front : (number : ℕ) (xs ys : List Planned) → IsBehind number (xs ++ ys) → IsBehind number xs
front number xs ys all k d lt =
    subst (λ (p : Planned). p.0 ≤ number) (get_or_append_left xs ys d k lt) (all k d (omega (arith, lt, length-append xs ys)))

-- a fault that comes in its turn stands behind those that did, and none is late
in_turn_more : (same : Bool) (rising late plan : List Fault) (fault : Fault) → rising ++ late ≡ plan → (same ≡ true → late ≡ []) → cond same (rising ++ fault ∷ []) rising ++ late ≡ cond same (plan ++ fault ∷ []) plan
in_turn_more true rising late plan fault is none =
    let empty : late ≡ [] = none refl in
    let all : rising ≡ plan = sym (append-nil rising) ∙ ap (λ xs. rising ++ xs) (sym empty) ∙ is in
    ap (λ xs. (rising ++ fault ∷ []) ++ xs) empty ∙ append-nil (rising ++ fault ∷ []) ∙ ap (λ xs. xs ++ fault ∷ []) all
in_turn_more false rising late plan fault is none = is

-- one that comes late stands behind all
late_more : (same : Bool) (rising late plan : List Fault) (fault : Fault) → rising ++ late ≡ plan → rising ++ cond same (late ++ fault ∷ []) late ≡ cond same (plan ++ fault ∷ []) plan
late_more true rising late plan fault is = sym (append_assoc rising late (fault ∷ [])) ∙ ap (λ xs. xs ++ fault ∷ []) is
late_more false rising late plan fault is = is

still_none : (same : Bool) (fault : Fault) (xs : List Fault) → same ≡ false → xs ≡ [] → cond same (xs ++ fault ∷ []) xs ≡ []
still_none true fault xs differ is = absurd (false≢true (sym differ))
still_none false fault xs differ is = is

not_same : (same : Bool) → (same ≡ true → ⊥) → same ≡ false
not_same true never = absurd (never refl)
not_same false never = refl

few_of : (rising : List Planned) (late : BTreeMap ℕ (ArrayVec Fault)) (plan : List Planned) (number : ℕ) (fault : Fault) → AreFaultsByNumber rising late plan → length (faults_of number plan) < 4
    → (q : ℕ) → length (faults_of q (plan ++ (number, fault) ∷ [])) ≤ 4
few_of rising late plan number fault stands less q =
    subst (λ xs. length xs ≤ 4) (sym (faults_more q number fault plan))
    (few_more (number == q) fault (faults_of q plan) (stands.few q) (λ e. subst (λ k. length (faults_of k plan) < 4) (eqb-true number q e) less))

in_range_of : (rising : List Planned) (late : BTreeMap ℕ (ArrayVec Fault)) (plan : List Planned) (number : ℕ) (fault : Fault) → AreFaultsByNumber rising late plan → is_in_range fault ≡ true
    → (q : ℕ) → list_all is_in_range (faults_of q (plan ++ (number, fault) ∷ [])) ≡ true
in_range_of rising late plan number fault stands one q =
    ap (list_all is_in_range) (faults_more q number fault plan) ∙ all_more (number == q) fault (faults_of q plan) (stands.in_range q) one

pub stands_behind : (rising : List Planned) (late : BTreeMap ℕ (ArrayVec Fault)) (plan : List Planned) (number : ℕ) (fault : Fault) → AreFaultsByNumber rising late plan → is_in_range fault ≡ true
    → length (faults_of number plan) < 4 → IsBehind number rising → AreFaultsByNumber (rising ++ (number, fault) ∷ []) late (plan ++ (number, fault) ∷ [])
stands_behind rising late plan number fault stands one less behind = record {
  faults = λ q. ap (λ xs. xs ++ late_of q late) (faults_more q number fault rising)
      ∙ in_turn_more (number == q) (faults_of q rising) (late_of q late) (faults_of q plan) fault (stands.faults q) (λ e. ap (λ k. late_of k late) (sym (eqb-true number q e)) ∙ stands.in_turn number behind)
      ∙ sym (faults_more q number fault plan);
  in_turn = λ q all. stands.in_turn q (front q rising ((number, fault) ∷ []) all);
  few = few_of rising late plan number fault stands less;
  in_range = in_range_of rising late plan number fault stands one;
}

pub stands_late : (rising : List Planned) (late new : BTreeMap ℕ (ArrayVec Fault)) (plan : List Planned) (number : ℕ) (fault : Fault) → AreFaultsByNumber rising late plan → is_in_range fault ≡ true
    → length (faults_of number plan) < 4 → (IsBehind number rising → ⊥) → HasOneMore number fault late new → AreFaultsByNumber rising new (plan ++ (number, fault) ∷ [])
stands_late rising late new plan number fault stands one less before more = record {
  faults = λ q. ap (λ xs. faults_of q rising ++ xs) (more q)
      ∙ late_more (number == q) (faults_of q rising) (late_of q late) (faults_of q plan) fault (stands.faults q)
      ∙ sym (faults_more q number fault plan);
  in_turn = λ q all. more q
      ∙ still_none (number == q) fault (late_of q late) (not_same (number == q) (λ e. before (subst (λ k. IsBehind k rising) (sym (eqb-true number q e)) all))) (stands.in_turn q all);
  few = few_of rising late plan number fault stands less;
  in_range = in_range_of rising late plan number fault stands one;
}

-- where the map has the same entries, it stands for the same
pub stands_same : (rising : List Planned) (late new : BTreeMap ℕ (ArrayVec Fault)) (plan : List Planned) → AreFaultsByNumber rising late plan → new.entries ≡ late.entries → AreFaultsByNumber rising new plan
stands_same rising late new plan stands same =
    let each : (q : ℕ) → late_of q new ≡ late_of q late = λ q. ap (λ es. items_in (lookup (is_at (nat_cmp q)) es)) same in
    record {
      faults = λ q. ap (λ xs. faults_of q rising ++ xs) (each q) ∙ stands.faults q;
      in_turn = λ q all. each q ∙ stands.in_turn q all;
      few = stands.few;
      in_range = stands.in_range;
    }

-- and the same by other names
pub stands_as : (rising r : List Planned) (late m : BTreeMap ℕ (ArrayVec Fault)) (plan p : List Planned) → r ≡ rising → m ≡ late → p ≡ plan → AreFaultsByNumber rising late plan → AreFaultsByNumber r m p
stands_as rising r late m plan p a b e stands =
    subst (λ (x : List Planned). AreFaultsByNumber x m p) (sym a)
    (subst (λ (x : BTreeMap ℕ (ArrayVec Fault)). AreFaultsByNumber rising x p) (sym b)
    (subst (λ (x : List Planned). AreFaultsByNumber rising late x) (sym e) stands))

-- where no more than four are there, and not four
pub not_full : (count : ℕ) (full : Bool) → full ≡ (count == 4) → full ≡ false → count ≤ 4 → count < 4
not_full count full is below most =
    let differ : count ≢ 4 = eqb-false count 4 (sym is ∙ below) in
    omega (arith, most, differ)

-- ---- a copy

abbrev vec_of : List Fault → ArrayVec Fault
vec_of xs = record { items = xs }

same_vec : (v w : ArrayVec Fault) → w.items ≡ v.items → w ≡ v
same_vec v w e = ap vec_of e

-- what is cloned entry by entry is the same
pub same_entries : (es fs : List (ℕ × ArrayVec Fault)) → AllZip (λ (p q : ℕ × ArrayVec Fault). (q.0 ≡ p.0) × AllZip (λ (x y : Fault). y ≡ x) p.1.items q.1.items) es fs → fs ≡ es
same_entries = entries_from_clone (λ (x y : ℕ). y ≡ x) (λ (v w : ArrayVec Fault). AllZip (λ (x y : Fault). y ≡ x) v.items w.items)
    (λ x y e. e) (λ v w each. same_vec v w (same_from_all_zip (λ (x y : Fault). y ≡ x) v.items w.items each (λ x y e. e)))
