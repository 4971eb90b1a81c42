-- Placed actions by rising number.
use Rattle.std.proofs.Common.{◌≡◌, ◌≢◌, ℕ, zero, suc, ◌<◌, ◌≤◌, Bool, true, false, cond, eqb, List, [], ◌∷◌, ◌++◌, refl, sym, ap, ◌∙◌, arith, subst}
use Rattle.std.specs.List.{AllByRecursion}
use Rattle.std.proofs.lemmas.List.{append-nil}
use Rattle.std.proofs.lemmas.List.Elements.{filter-append}
use Rattle.std.proofs.lemmas.Bool.{eqb-true, eq-eqb, ne_eqb}
use Rattle.bc_machine.specs.declared.placed.Placed.{Placed}
use Rattle.bc_machine.specs.Controller.{placed_at}
use Rattle.bench_report.specs.Reports.{NeverFalls}
use Rattle.bc_machine.specs.Hosting.{placed_up_to}

-- each number is within 1 and this one
abbrev pub AreUpTo : ℕ → List Placed → Type 0
AreUpTo most ps = AllByRecursion (λ (p : Placed). (1 ≤ p.number) × (p.number ≤ most)) ps

-- each number is at least this one
abbrev pub AreFrom : ℕ → List Placed → Type 0
AreFrom least ps = AllByRecursion (λ (p : Placed). least ≤ p.number) ps

-- ---- numbers that are no lower

lower : (a b : ℕ) (ps : List Placed) → a ≤ b → AreFrom b ps → AreFrom a ps
lower a b [] less all = tt
lower a b (p ∷ ps) less all = (omega (arith, less, all.0), lower a b ps less all.1)

-- ---- the actions at one number

at_first : (k : ℕ) (p : Placed) (ps : List Placed) → p.number ≡ k → placed_at k (p ∷ ps) ≡ p ∷ placed_at k ps
at_first k p ps same = ap (λ (b : Bool). cond b (p ∷ placed_at k ps) (placed_at k ps)) (eq-eqb p.number k same)

at_others : (k : ℕ) (p : Placed) (ps : List Placed) → p.number ≢ k → placed_at k (p ∷ ps) ≡ placed_at k ps
at_others k p ps other = ap (λ (b : Bool). cond b (p ∷ placed_at k ps) (placed_at k ps)) (ne_eqb p.number k other)

-- of those at one number, those at another
both_step : (k n : ℕ) (p : Placed) (ps : List Placed) (b : Bool) → eqb p.number n ≡ b → k ≢ n → placed_at k (placed_at n ps) ≡ []
    → placed_at k (cond b (p ∷ placed_at n ps) (placed_at n ps)) ≡ []
both_step k n p ps true e other rest = at_others k p (placed_at n ps) (λ same. other (sym same ∙ eqb-true p.number n e)) ∙ rest
both_step k n p ps false e other rest = rest

at_both : (k n : ℕ) (ps : List Placed) → k ≢ n → placed_at k (placed_at n ps) ≡ []
at_both k n [] other = refl
at_both k n (p ∷ ps) other = both_step k n p ps (eqb p.number n) refl other (at_both k n ps other)

again_step : (n : ℕ) (p : Placed) (ps : List Placed) (b : Bool) → eqb p.number n ≡ b → placed_at n (placed_at n ps) ≡ placed_at n ps
    → placed_at n (cond b (p ∷ placed_at n ps) (placed_at n ps)) ≡ cond b (p ∷ placed_at n ps) (placed_at n ps)
again_step n p ps true e rest = at_first n p (placed_at n ps) (eqb-true p.number n e) ∙ ap (λ (qs : List Placed). p ∷ qs) rest
again_step n p ps false e rest = rest

at_again : (n : ℕ) (ps : List Placed) → placed_at n (placed_at n ps) ≡ placed_at n ps
at_again n [] = refl
at_again n (p ∷ ps) = again_step n p ps (eqb p.number n) refl (at_again n ps)

-- those above every number
at_none : (k : ℕ) (ps : List Placed) → AreFrom (suc k) ps → placed_at k ps ≡ []
at_none k [] all = refl
at_none k (p ∷ ps) all = at_others k p ps (λ same. absurd (omega (arith, all.0, same))) ∙ at_none k ps all.1

-- ---- the actions up to one number

up_to_next : (n : ℕ) (ps : List Placed) → placed_up_to (suc n) ps ≡ placed_up_to n ps ++ placed_at (suc n) ps
unfolding placed_up_to
up_to_next n ps = refl

up_to_zero : (ps : List Placed) → placed_up_to zero ps ≡ []
unfolding placed_up_to
up_to_zero ps = refl

join : (ps qs us vs : List Placed) → ps ≡ us → qs ≡ vs → ps ++ qs ≡ us ++ vs
join ps qs us vs e f = ap (λ (xs : List Placed). xs ++ qs) e ∙ ap (λ (xs : List Placed). us ++ xs) f

-- two lists with the same actions at each number
pub up_to_same : (n : ℕ) (ps qs : List Placed) → ((k : ℕ) → 1 ≤ k → k ≤ n → placed_at k ps ≡ placed_at k qs) → placed_up_to n ps ≡ placed_up_to n qs
up_to_same zero ps qs same = up_to_zero ps ∙ sym (up_to_zero qs)
up_to_same (suc n) ps qs same =
    up_to_next n ps
    ∙ join (placed_up_to n ps) (placed_at (suc n) ps) (placed_up_to n qs) (placed_at (suc n) qs)
    (up_to_same n ps qs (λ k low high. same k low (omega (arith, high)))) (same (suc n) (omega arith) (omega arith))
    ∙ sym (up_to_next n qs)

-- those above every number
up_to_none : (n : ℕ) (ps : List Placed) → AreFrom (suc n) ps → placed_up_to n ps ≡ []
up_to_none zero ps all = up_to_zero ps
up_to_none (suc n) ps all =
    up_to_next n ps
    ∙ join (placed_up_to n ps) (placed_at (suc n) ps) [] [] (up_to_none n ps (lower (suc n) (suc (suc n)) ps (omega arith) all)) (at_none (suc n) ps all)

-- at a number above all of them
above_up_to : (k n : ℕ) (ps : List Placed) → n < k → placed_at k (placed_up_to n ps) ≡ []
above_up_to k zero ps less = ap (placed_at k) (up_to_zero ps)
above_up_to k (suc n) ps less =
    ap (placed_at k) (up_to_next n ps)
    ∙ filter-append (λ (p : Placed). eqb p.number k) (placed_up_to n ps) (placed_at (suc n) ps)
    ∙ join (placed_at k (placed_up_to n ps)) (placed_at k (placed_at (suc n) ps)) [] [] (above_up_to k n ps (omega (arith, less)))
    (at_both k (suc n) ps (λ e. absurd (omega (arith, less, e))))

at_up_to_step : (k n : ℕ) (ps : List Placed) (last : Bool) → eqb k (suc n) ≡ last → k ≤ suc n → (k ≤ n → placed_at k (placed_up_to n ps) ≡ placed_at k ps)
    → placed_at k (placed_up_to n ps) ++ placed_at k (placed_at (suc n) ps) ≡ placed_at k ps
at_up_to_step k n ps true e high lower =
    let same : k ≡ suc n = eqb-true k (suc n) e in
    join (placed_at k (placed_up_to n ps)) (placed_at k (placed_at (suc n) ps)) [] (placed_at k ps) (above_up_to k n ps (omega (arith, same)))
    (ap (λ (m : ℕ). placed_at k (placed_at m ps)) (sym same) ∙ at_again k ps)
at_up_to_step k n ps false e high lower =
    let other : k ≢ suc n = λ same. absurd (let wrong : true ≡ false = sym (eq-eqb k (suc n) same) ∙ e in cc) in
    join (placed_at k (placed_up_to n ps)) (placed_at k (placed_at (suc n) ps)) (placed_at k ps) [] (lower (below k n high other)) (at_both k (suc n) ps other)
    ∙ append-nil (placed_at k ps)
  where
    below : (k n : ℕ) → k ≤ suc n → k ≢ suc n → k ≤ n
    below k n high other = omega (arith, high, other)

-- at one of those numbers it has the actions of that number
pub at_up_to : (k n : ℕ) (ps : List Placed) → 1 ≤ k → k ≤ n → placed_at k (placed_up_to n ps) ≡ placed_at k ps
at_up_to k zero ps low high = absurd (omega (arith, low, high))
at_up_to k (suc n) ps low high =
    ap (placed_at k) (up_to_next n ps)
    ∙ filter-append (λ (p : Placed). eqb p.number k) (placed_up_to n ps) (placed_at (suc n) ps)
    ∙ at_up_to_step k n ps (eqb k (suc n)) refl high (λ less. at_up_to k n ps low less)

-- ---- lists that are ordered

pub from_least : (least : ℕ) (ps : List Placed) → NeverFalls least ps → AreFrom least ps
from_least least [] order = tt
from_least least (p ∷ ps) order = (order.0, lower least p.number ps order.0 (from_least p.number ps order.1))

first_step : (n : ℕ) (p : Placed) (ps : List Placed) (last : Bool) → eqb p.number (suc n) ≡ last → p.number ≤ suc n → AreFrom p.number ps
    → (p.number ≤ n → placed_up_to n (p ∷ ps) ≡ p ∷ placed_up_to n ps) → placed_up_to n (p ∷ ps) ++ placed_at (suc n) (p ∷ ps) ≡ p ∷ (placed_up_to n ps ++ placed_at (suc n) ps)
first_step n p ps true e high all before =
    let same : p.number ≡ suc n = eqb-true p.number (suc n) e in
    let behind : AreFrom (suc n) ps = subst (λ (m : ℕ). AreFrom m ps) same all in
    join (placed_up_to n (p ∷ ps)) (placed_at (suc n) (p ∷ ps)) [] (p ∷ placed_at (suc n) ps) (up_to_none n (p ∷ ps) (omega (arith, same), behind)) (at_first (suc n) p ps same)
    ∙ ap (λ (qs : List Placed). p ∷ (qs ++ placed_at (suc n) ps)) (sym (up_to_none n ps behind))
first_step n p ps false e high all before =
    let other : p.number ≢ suc n = λ same. absurd (let wrong : true ≡ false = sym (eq-eqb p.number (suc n) same) ∙ e in cc) in
    join (placed_up_to n (p ∷ ps)) (placed_at (suc n) (p ∷ ps)) (p ∷ placed_up_to n ps) (placed_at (suc n) ps) (before (omega (arith, high, other))) (at_others (suc n) p ps other)

-- the first action of an ordered list comes first
up_to_first : (n : ℕ) (p : Placed) (ps : List Placed) → 1 ≤ p.number → p.number ≤ n → AreFrom p.number ps → placed_up_to n (p ∷ ps) ≡ p ∷ placed_up_to n ps
up_to_first zero p ps low high all = absurd (omega (arith, low, high))
up_to_first (suc n) p ps low high all =
    up_to_next n (p ∷ ps)
    ∙ first_step n p ps (eqb p.number (suc n)) refl high all (λ less. up_to_first n p ps low less all)
    ∙ ap (λ (qs : List Placed). p ∷ qs) (sym (up_to_next n ps))

-- an ordered list has its own order
pub up_to_itself : (n least : ℕ) (ps : List Placed) → NeverFalls least ps → AreUpTo n ps → placed_up_to n ps ≡ ps
up_to_itself n least [] order all = up_to_none n [] tt
up_to_itself n least (p ∷ ps) order all =
    up_to_first n p ps all.0.0 all.0.1 (from_least p.number ps order.1)
    ∙ ap (λ (qs : List Placed). p ∷ qs) (up_to_itself n p.number ps order.1 all.1)
