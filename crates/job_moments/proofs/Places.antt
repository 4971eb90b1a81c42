-- Places of planned faults that are due, of one more, and of those of one chunk or group more.
use Rattle.std.proofs.Common.{◌≡◌, ℕ, suc, ◌+◌, ◌<◌, false, List, [], ◌∷◌, ◌++◌, length, get_or, take, All, refl, sym, ap, ◌∙◌, arith, append_assoc}
use Rattle.std.specs.Prelude.{if◌then◌else◌}
use Rattle.std.specs.List.{flat_map}
use Rattle.std.proofs.lemmas.List.{append-nil, length-map, length-take-le}
use Rattle.std.proofs.lemmas.List.Elements.{All-tail}
use Rattle.job_moments.specs.declared.met.Met.{Met}
use Rattle.job_moments.specs.declared.planning.Rule.{Rule}
use Rattle.job_moments.specs.Planning.{PlannedFault, place_at, places_from}
use Rattle.job_moments.specs.Rules.{planned_of, plans_of, occasion_of}
use Rattle.job_moments.proofs.Planned.{plans_more, plans_of_more}

places_append : (made : List Met) (next : Met) (first : ℕ) (ps qs : List PlannedFault)
    → places_from made next first (ps ++ qs) ≡ places_from made next first ps ++ places_from made next (first + length ps) qs
places_append made next first [] qs = ap (λ k. places_from made next k qs) (omega arith)
places_append made next first (p ∷ ps) qs =
    ap (λ (ks : List ℕ). place_at made next first p ++ ks)
    (places_append made next (first + 1) ps qs
    ∙ ap (λ k. places_from made next (first + 1) ps ++ places_from made next k qs) (omega arith))
    ∙ sym (append_assoc (place_at made next first p) (places_from made next (first + 1) ps) (places_from made next (first + suc (length ps)) qs))

-- of one rule more
pub places_more : (made : List Met) (next : Met) (first : ℕ) (rules : List Rule) (i : ℕ) (d : Rule) → i < length rules
    → places_from made next first (plans_of (take (i + 1) rules))
    ≡ places_from made next first (plans_of (take i rules)) ++ place_at made next (first + i) (planned_of (get_or rules i d))
places_more made next first rules i d within =
    let before = plans_of (take i rules) in
    let one = planned_of (get_or rules i d) in
    let long : length before ≡ i = length-map (take i rules) planned_of ∙ length-take-le i rules (omega (arith, within)) in
    ap (places_from made next first) (plans_more [] rules i d within)
    ∙ places_append made next first before (one ∷ [])
    ∙ ap (λ k. places_from made next first before ++ places_from made next (first + k) (one ∷ [])) long
    ∙ ap (λ (ks : List ℕ). places_from made next first before ++ ks) (append-nil (place_at made next (first + i) one))

-- of rules that are not due
pub places_none : (made : List Met) (next : Met) (first : ℕ) (rules : List Rule)
    → All (λ (r : Rule). occasion_of r made next ≡ false) rules → places_from made next first (plans_of rules) ≡ []
places_none made next first [] none = refl
places_none made next first (r ∷ rs) none =
    ap (λ is. (if is then first ∷ [] else []) ++ places_from made next (first + 1) (plans_of rs)) (none 0 r (omega arith))
    ∙ places_none made next (first + 1) rs (All-tail (λ (s : Rule). occasion_of s made next ≡ false) r rs none)

-- of one more of the items that have rules each, as chunks and groups
pub places_in_more : {X : Type 0} (f : X → List Rule) (made : List Met) (next : Met) (first : ℕ) (xs : List X) (i : ℕ) (d : X) → i < length xs
    → places_from made next first (plans_of (flat_map f (take (i + 1) xs)))
    ≡ places_from made next first (plans_of (flat_map f (take i xs)))
    ++ places_from made next (first + length (flat_map f (take i xs))) (plans_of (f (get_or xs i d)))
places_in_more f made next first xs i d within =
    let before = plans_of (flat_map f (take i xs)) in
    ap (places_from made next first) (plans_of_more f xs i d within)
    ∙ places_append made next first before (plans_of (f (get_or xs i d)))
    ∙ ap (λ k. places_from made next first before ++ places_from made next k (plans_of (f (get_or xs i d))))
    (omega (arith, length-map (flat_map f (take i xs)) planned_of))
