-- Faults that are planned as a controller goes on.
use Rattle.std.proofs.Common.{◌≡◌, ℕ, zero, suc, ◌+◌, ◌<◌, ◌≤◌, true, false, List, [], ◌∷◌, ◌++◌, length, map, take, refl, sym, ap, ◌∙◌, append_assoc, arith, inl, inr, ◌⊎◌}
use Rattle.std.specs.Prelude.{Bool, Some, None, ◌&&◌, ◌==◌, nat_le, cond}
use Rattle.std.specs.List.{list_all, filter_map, cons_option}
use Rattle.std.proofs.lemmas.Bool.{le-leb}
use Rattle.std.proofs.lemmas.Bool.Decides.{nat_tests}
use Rattle.std.proofs.lemmas.List.{append-nil, map-append, length-append}
use Rattle.std.proofs.lemmas.List.Elements.{All-head, All-tail, All-append, filter_map-append}
use Rattle.mil_line.specs.declared.faults.Fault.{Fault}
use Rattle.mil_line.specs.Plans.{Planned, fault_of, faults_of}
use Rattle.mil_line.specs.Ranges.{is_in_range, is_number}
use Rattle.bc_machine.specs.Planning.{next_number, with_fault, with_plan}
use Rattle.bc_machine.specs.Running.{MachineState}
use Rattle.job_moments.specs.declared.met.Met.{Met}
use Rattle.job_moments.specs.Planning.{PlannedFault, is_occasion, fault_at, faults_at}
use Rattle.job_file.specs.Resolving.{IsPlannedUpTo}
use Rattle.job_file.specs.Timed.{made_of, coming_met, faults_in, with_faults, faulted}

-- ---- one behind the other

pub with_none : (m : MachineState) → with_faults m [] ≡ m
with_none m = ap (with_plan m) (append-nil m.plan)

pub with_more : (m : MachineState) (faults : List Fault) (f : Fault) → with_fault (with_faults m faults) f ≡ with_faults m (faults ++ f ∷ [])
with_more m faults f =
    let n = next_number m in
    ap (with_plan m) (append_assoc m.plan (map (λ (g : Fault). (n, g)) faults) ((n, f) ∷ []) ∙ ap (λ (ps : List Planned). m.plan ++ ps) (sym (map-append (λ (g : Fault). (n, g)) faults (f ∷ []))))

-- ---- those of a message

equal_self : (n : ℕ) → (n == n) ≡ true
equal_self n = grind (arith, nat_tests)

of_these : (n : ℕ) (faults : List Fault) → faults_of n (map (λ (f : Fault). (n, f)) faults) ≡ faults
of_these n [] = refl
of_these n (f ∷ fs) = ap (λ b. cons_option (cond b (Some f) None) (faults_of n (map (λ (g : Fault). (n, g)) fs))) (equal_self n) ∙ ap (λ gs. f ∷ gs) (of_these n fs)

pub planned_here : (m : MachineState) (faults : List Fault) → length (faults_of (next_number m) (with_faults m faults).plan) ≡ length (faults_of (next_number m) m.plan) + length faults
planned_here m faults =
    let n = next_number m in
    ap length (filter_map-append (fault_of n) m.plan (map (λ (f : Fault). (n, f)) faults))
    ∙ length-append (faults_of n m.plan) (faults_of n (map (λ (f : Fault). (n, f)) faults))
    ∙ ap (λ fs. length (faults_of n m.plan) + length fs) (of_these n faults)

other : (n k : ℕ) → k ≤ n → (k == n + 1) ≡ false
other n k le = grind (arith, nat_tests)

pub none_behind : (n : ℕ) (plan : List Planned) → IsPlannedUpTo n plan → faults_of (n + 1) plan ≡ []
none_behind n [] h = refl
none_behind n (p ∷ ps) h = ap (λ b. cons_option (cond b (Some p.1) None) (faults_of (n + 1) ps)) (other n p.0 (All-head (λ (q : Planned). q.0 ≤ n) p ps h)) ∙ none_behind n ps (All-tail (λ (q : Planned). q.0 ≤ n) p ps h)

-- ---- in their ranges

first_true : (a b : Bool) → (a && b) ≡ true → a ≡ true
first_true true b h = refl
first_true false b h = cc

rest_true : (a b : Bool) → (a && b) ≡ true → b ≡ true
rest_true true b h = h
rest_true false b h = cc

both_true : (a b : Bool) → a ≡ true → b ≡ true → (a && b) ≡ true
both_true a b e f = rw (e, f) refl

take_all_true : (p : Fault → Bool) (n : ℕ) (fs : List Fault) → list_all p fs ≡ true → list_all p (take n fs) ≡ true
take_all_true p zero fs h = refl
take_all_true p (suc n) [] h = refl
take_all_true p (suc n) (f ∷ fs) h = both_true (p f) (list_all p (take n fs)) (first_true (p f) (list_all p fs) h) (take_all_true p n fs (rest_true (p f) (list_all p fs) h))

with_option : (b : Bool) (f : Fault) (fs : List Fault) → is_in_range f ≡ true → list_all is_in_range fs ≡ true → list_all is_in_range (cons_option (cond b (Some f) None) fs) ≡ true
with_option true f fs one all = both_true (is_in_range f) (list_all is_in_range fs) one all
with_option false f fs one all = all

due_in_range : (made : List Met) (next : Met) (faults : List PlannedFault) → list_all (λ (p : PlannedFault). is_in_range p.fault) faults ≡ true → list_all is_in_range (filter_map (fault_at made next) faults) ≡ true
due_in_range made next [] h = refl
due_in_range made next (p ∷ ps) h =
    let all = list_all (λ (q : PlannedFault). is_in_range q.fault) ps in
    with_option (is_occasion made next p.occasion) p.fault (filter_map (fault_at made next) ps) (first_true (is_in_range p.fault) all h) (due_in_range made next ps (rest_true (is_in_range p.fault) all h))

pub faults_in_range : (made : List Met) (next : Met) (faults : List PlannedFault) → list_all (λ (p : PlannedFault). is_in_range p.fault) faults ≡ true → list_all is_in_range (faults_at made next faults) ≡ true
faults_in_range made next faults h = take_all_true is_in_range 4 (filter_map (fault_at made next) faults) (due_in_range made next faults h)

short : (n : ℕ) (fs : List Fault) → length (take n fs) ≤ n
short zero fs = omega arith
short (suc n) [] = omega arith
short (suc n) (f ∷ fs) = let rest = short n fs in omega (arith, rest)

pub four_at_most : (made : List Met) (next : Met) (faults : List PlannedFault) → length (faults_at made next faults) ≤ 4
four_at_most made next faults = short 4 (filter_map (fault_at made next) faults)

pub next_is_number : (n : ℕ) → n < 1000000 → is_number (n + 1) ≡ true
next_is_number n few = both_true (nat_le 1 (n + 1)) (nat_le (n + 1) 1000000) (le-leb 1 (n + 1) (omega arith)) (le-leb (n + 1) 1000000 (omega arith))

-- what was planned as the controller went on, or from the beginning on
pub may_plan : (m : MachineState) (made : List Met) (next : Met) (faults : List PlannedFault) → (faults ≡ []) ⊎ IsPlannedUpTo m.point.number m.plan
    → 1 ≤ length (faults_at made next faults) → length (faults_of (next_number m) m.plan) + length (faults_at made next faults) ≤ 4
may_plan m made next faults (inl none) some = let empty : length (faults_at made next faults) ≡ 0 = ap (λ fs. length (faults_at made next fs)) none in absurd (omega (arith, empty, some))
may_plan m made next faults (inr planned) some =
    let none : length (faults_of (next_number m) m.plan) ≡ 0 = ap length (none_behind m.point.number m.plan planned) in
    omega (arith, none, four_at_most made next faults)

-- ---- the next message's faults

pub faulted_none : (faults : List PlannedFault) (m : MachineState) → coming_met m ≡ None → m ≡ faulted faults m
unfolding faulted
faulted_none faults m e = sym (ap (λ o. with_faults m (faults_in faults (made_of m) o)) e ∙ with_none m)

pub faulted_some : (faults : List PlannedFault) (m n : MachineState) (next : Met) (due : List Fault) (made : List Met) → coming_met m ≡ Some next → made ≡ made_of m → due ≡ faults_at made next faults → n ≡ with_faults m due → n ≡ faulted faults m
unfolding faulted
faulted_some faults m n next due made e is at planned =
    planned ∙ ap (with_faults m) (at ∙ ap (λ ms. faults_at ms next faults) is) ∙ sym (ap (λ o. with_faults m (faults_in faults (made_of m) o)) e)

up_to_more : (n k : ℕ) (plan : List Planned) → n ≤ k → IsPlannedUpTo n plan → IsPlannedUpTo k plan
up_to_more n k plan le all i d within = let low = all i d within in omega (arith, le, low)

up_to_here : (n : ℕ) (faults : List Fault) → IsPlannedUpTo n (map (λ (f : Fault). (n, f)) faults)
up_to_here n [] i d within = absurd (omega (arith, within))
up_to_here n (f ∷ fs) zero d within = omega arith
up_to_here n (f ∷ fs) (suc i) d within = up_to_here n fs i d (omega (arith, within))

pub has_planned : (faults : List PlannedFault) (m : MachineState) (next : Met) (due : List Fault) → (faults ≡ []) ⊎ IsPlannedUpTo m.point.number m.plan → (faults ≡ []) ⊎ IsPlannedUpTo (m.point.number + 1) (with_faults m due).plan
has_planned faults m next due (inl none) = inl none
has_planned faults m next due (inr planned) =
    let number = m.point.number in
    inr (All-append (λ (p : Planned). p.0 ≤ number + 1) m.plan (map (λ (f : Fault). (next_number m, f)) due) (up_to_more number (number + 1) m.plan (omega arith) planned) (up_to_here (number + 1) due))
