-- Rules whose faults are due, and faults due with one rule more.
use Rattle.std.proofs.Common.{◌≡◌, ℕ, ◌+◌, ◌<◌, ◌≤◌, Bool, true, false, List, [], ◌∷◌, ◌++◌, length, get_or, take, All, sym, ap, ◌∙◌, arith, append_assoc}
use Rattle.std.specs.Prelude.{Some, None, if◌then◌else◌}
use Rattle.std.specs.List.{filter_map, cons_option, flat_map}
use Rattle.std.proofs.lemmas.List.{map-append, take_more, take-append-le, take_all, append-nil, length-take, length_push}
use Rattle.std.proofs.lemmas.List.Elements.{filter_map-append, All-tail}
use Rattle.mil_line.specs.declared.faults.Fault.{Fault}
use Rattle.job_moments.specs.declared.met.Met.{Met}
use Rattle.job_moments.specs.declared.planning.Rule.{Rule}
use Rattle.job_moments.specs.Planning.{PlannedFault, PlanState, is_occasion, fault_at, faults_at}
use Rattle.job_moments.specs.Rules.{planned_of, plans_of, occasion_of}
use Rattle.job_moments.proofs.Joined.{joined_more}

take_push_few : {X : Type 0} (n : ℕ) (xs : List X) (y : X) → length (take n xs) < n
    → take n (xs ++ y ∷ []) ≡ take n xs ++ y ∷ []
take_push_few n xs y few =
    let long = length-take n xs in
    let more = length_push xs y in
    take_all n (xs ++ y ∷ []) (omega (arith, few, long, more)) ∙ ap (λ zs. zs ++ y ∷ []) (sym (take_all n xs (omega (arith, few, long))))

-- the faults due with one planned fault more, behind others
abbrev with_one : List Met → Met → List PlannedFault → PlannedFault → Bool → List Fault
with_one made next ps p is = take 4 (filter_map (fault_at made next) ps ++ cons_option (if is then Some p.fault else None) [])

with_one_is : (made : List Met) (next : Met) (ps : List PlannedFault) (p : PlannedFault)
    → faults_at made next (ps ++ p ∷ []) ≡ with_one made next ps p (is_occasion made next p.occasion)
with_one_is made next ps p = ap (take 4) (filter_map-append (fault_at made next) ps (p ∷ []))

pub due_more : (made : List Met) (next : Met) (ps : List PlannedFault) (p : PlannedFault)
    → is_occasion made next p.occasion ≡ true → length (faults_at made next ps) < 4
    → faults_at made next (ps ++ p ∷ []) ≡ faults_at made next ps ++ p.fault ∷ []
due_more made next ps p is few =
    with_one_is made next ps p ∙ ap (with_one made next ps p) is ∙ take_push_few 4 (filter_map (fault_at made next) ps) p.fault few

pub due_same : (made : List Met) (next : Met) (ps : List PlannedFault) (p : PlannedFault)
    → is_occasion made next p.occasion ≡ false
    → faults_at made next (ps ++ p ∷ []) ≡ faults_at made next ps
due_same made next ps p is =
    with_one_is made next ps p ∙ ap (with_one made next ps p) is ∙ ap (take 4) (append-nil (filter_map (fault_at made next) ps))

pub due_full : (made : List Met) (next : Met) (ps : List PlannedFault) (p : PlannedFault)
    → 4 ≤ length (faults_at made next ps)
    → faults_at made next (ps ++ p ∷ []) ≡ faults_at made next ps
due_full made next ps p full =
    let all = filter_map (fault_at made next) ps in
    ap (take 4) (filter_map-append (fault_at made next) ps (p ∷ []))
    ∙ take-append-le 4 all (filter_map (fault_at made next) (p ∷ [])) (omega (arith, full, length-take 4 all))

pub same_plans : (one other : PlanState) → one.faults ≡ other.faults → one.made ≡ other.made → one ≡ other
same_plans one other faults made =
    ap (λ (ps : List PlannedFault). record { faults = ps; made = one.made }) faults
    ∙ ap (λ (ms : List Met). record { faults = other.faults; made = ms }) made

-- rules that are not due
pub due_none : (made : List Met) (next : Met) (ps : List PlannedFault) (rules : List Rule)
    → All (λ (r : Rule). occasion_of r made next ≡ false) rules
    → faults_at made next (ps ++ plans_of rules) ≡ faults_at made next ps
due_none made next ps [] none = ap (faults_at made next) (append-nil ps)
due_none made next ps (r ∷ rs) none =
    ap (faults_at made next) (sym (append_assoc ps (planned_of r ∷ []) (plans_of rs)))
    ∙ due_none made next (ps ++ planned_of r ∷ []) rs (All-tail (λ (s : Rule). occasion_of s made next ≡ false) r rs none)
    ∙ due_same made next ps (planned_of r) (none 0 r (omega arith))

-- the planned faults of one rule more, and of one more of the items that have rules each, as chunks and groups
pub plans_more : (ps : List PlannedFault) (rules : List Rule) (i : ℕ) (d : Rule) → i < length rules
    → ps ++ plans_of (take (i + 1) rules) ≡ (ps ++ plans_of (take i rules)) ++ planned_of (get_or rules i d) ∷ []
plans_more ps rules i d within =
    ap (λ (rs : List Rule). ps ++ plans_of rs) (take_more rules i d within)
    ∙ ap (λ (qs : List PlannedFault). ps ++ qs) (map-append planned_of (take i rules) (get_or rules i d ∷ []))
    ∙ sym (append_assoc ps (plans_of (take i rules)) (planned_of (get_or rules i d) ∷ []))

pub plans_of_more : {X : Type 0} (f : X → List Rule) (xs : List X) (i : ℕ) (d : X) → i < length xs
    → plans_of (flat_map f (take (i + 1) xs)) ≡ plans_of (flat_map f (take i xs)) ++ plans_of (f (get_or xs i d))
plans_of_more f xs i d within =
    ap plans_of (joined_more f xs i d within) ∙ map-append planned_of (flat_map f (take i xs)) (f (get_or xs i d))

-- the same behind others
pub plans_behind : {X : Type 0} (f : X → List Rule) (before : List PlannedFault) (xs : List X) (i : ℕ) (d : X) → i < length xs
    → before ++ plans_of (flat_map f (take (i + 1) xs)) ≡ (before ++ plans_of (flat_map f (take i xs))) ++ plans_of (f (get_or xs i d))
plans_behind f before xs i d within =
    ap (λ (qs : List PlannedFault). before ++ qs) (plans_of_more f xs i d within)
    ∙ sym (append_assoc before (plans_of (flat_map f (take i xs))) (plans_of (f (get_or xs i d))))
