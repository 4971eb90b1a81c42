-- Placed actions that were sorted by number, and those of them up to one.
use Rattle.std.proofs.Common.{◌≡◌, ℕ, zero, suc, ◌≤◌, true, not, ◌&&◌, eqb, nat_le, List, [], ◌∷◌, take, sym, ap, ◌∙◌, inl, inr, arith}
use Rattle.std.specs.List.{AllByRecursion, AllWithin, list_all, list_any}
use Rattle.std.specs.List.Sorted.{IsPermutation}
use Rattle.std.proofs.lemmas.Bool.{eqb-true, leb-true, and_parts, or_cases}
use Rattle.std.proofs.lemmas.List.Elements.{All-from_recursion, recursion_from_All}
use Rattle.std.proofs.lemmas.List.Sorted.{All-permutation}
use Rattle.mil_bus.specs.Addresses.{is_fit}
use Rattle.bc_machine.specs.declared.placed.Placed.{Placed}
use Rattle.bc_machine.specs.declared.placed.HostAction.{HostAction}
use Rattle.bc_machine.specs.declared.placed.HostAction.TheVariants.{Terminal, Controller}
use Rattle.bc_machine.specs.Controller.{placed_at}
use Rattle.bc_machine.specs.Rising.{IsRising, IsParted}
use Rattle.bc_machine.proofs.Around.{stop}
use Rattle.job_file.specs.JobRanges.{is_for, may_act}
use Rattle.bench_report.specs.Reports.{IsForPlace, IsPlace, NeverFalls}
use Rattle.bench_settings.specs.Placing.{placed_up_to, IsOrdered}
use Rattle.bench_settings.proofs.Ordered.{AreUpTo, AreFrom, from_least, up_to_same, up_to_itself, at_up_to}

-- ---- numbers that never fall

never_falls : (least : ℕ) (ps : List Placed) → AreFrom least ps → IsRising ps → NeverFalls least ps
never_falls least [] all rising = tt
never_falls least (p ∷ ps) all rising =
    let behind : AreFrom p.number ps = recursion_from_All (λ (q : Placed). p.number ≤ q.number) ps (λ k d less. rising 0 (suc k) d (omega arith) (omega (arith, less))) in
    (all.0, never_falls p.number ps behind (λ i j d low less. rising (suc i) (suc j) d (omega (arith, low)) (omega (arith, less))))

pub rises : (least : ℕ) (ps : List Placed) → NeverFalls least ps → IsRising ps
rises least [] order i j d low less = absurd (omega (arith, less))
rises least (p ∷ ps) order zero zero d low less = omega arith
rises least (p ∷ ps) order zero (suc j) d low less = All-from_recursion (λ (q : Placed). p.number ≤ q.number) ps (from_least p.number ps order.1) j d (omega (arith, less))
rises least (p ∷ ps) order (suc i) zero d low less = absurd (omega (arith, low))
rises least (p ∷ ps) order (suc i) (suc j) d low less = rises p.number ps order.1 i j d (omega (arith, low)) (omega (arith, less))

-- ---- places of a job's actions

in_addresses : (own : ℕ) (addresses : List ℕ) → is_fit addresses ≡ true → list_any (λ a. eqb a own) addresses ≡ true → own ≤ 30
in_addresses own [] fit some = absurd cc
in_addresses own (a ∷ rest) fit some =
    let parts = and_parts (nat_le a 30 && not (list_any (λ b. eqb b a) rest)) (is_fit rest) fit in
    elim (or_cases (eqb a own) (list_any (λ b. eqb b own) rest) some) [
      | inl same ↦ omega (arith, leb-true a 30 (and_parts (nat_le a 30) (not (list_any (λ b. eqb b a) rest)) parts.0).0, eqb-true a own same)
      | inr later ↦ in_addresses own rest parts.1 later
    ]

for_place : (addresses : List ℕ) (action : HostAction) → is_fit addresses ≡ true → is_for addresses action ≡ true → IsForPlace action
for_place addresses (Terminal address action) fit may = in_addresses address addresses fit may
for_place addresses (Controller asked) fit may = tt

place : (addresses : List ℕ) (p : Placed) → is_fit addresses ≡ true → may_act addresses p ≡ true → IsPlace p
place addresses p fit may =
    let parts = and_parts (nat_le 1 p.number && nat_le p.number 1000000) (is_for addresses p.action) may in
    let numbers = and_parts (nat_le 1 p.number) (nat_le p.number 1000000) parts.0 in
    record {
      number_low = leb-true 1 p.number numbers.0;
      number_high = leb-true p.number 1000000 numbers.1;
      address = for_place addresses p.action fit parts.1;
    }

places_of : (addresses : List ℕ) (ps : List Placed) → is_fit addresses ≡ true → list_all (may_act addresses) ps ≡ true → AllByRecursion IsPlace ps
places_of addresses [] fit all = tt
places_of addresses (p ∷ ps) fit all =
    let parts = and_parts (may_act addresses p) (list_all (may_act addresses) ps) all in
    (place addresses p fit parts.0, places_of addresses ps fit parts.1)

-- ---- a job's actions, sorted

pub up_to_last : (ps : List Placed) → AllByRecursion IsPlace ps → AreUpTo 1000000 ps
up_to_last [] all = tt
up_to_last (p ∷ ps) all = ((all.0.number_low, all.0.number_high), up_to_last ps all.1)

from_zero : (ps : List Placed) → AreFrom 0 ps
from_zero [] = tt
from_zero (p ∷ ps) = (omega arith, from_zero ps)

pub sorted_fits : (addresses : List ℕ) (ps qs : List Placed) → is_fit addresses ≡ true → list_all (may_act addresses) ps ≡ true → IsPermutation ps qs → IsRising qs → IsOrdered qs
sorted_fits addresses ps qs fit all same rising = record {
  places = All-permutation IsPlace ps qs same (All-from_recursion IsPlace ps (places_of addresses ps fit all));
  order = never_falls 0 qs (from_zero qs) rising;
}

pub sorted_is : (ps qs : List Placed) → ((n : ℕ) → placed_at n qs ≡ placed_at n ps) → IsOrdered qs → qs ≡ placed_up_to 1000000 ps
sorted_is ps qs stable is =
    sym (up_to_itself 1000000 0 qs is.order (up_to_last qs (recursion_from_All IsPlace qs is.places)))
    ∙ up_to_same 1000000 qs ps (λ k low high. stable k)

-- ---- the actions up to a number

pub order_taken : (least k : ℕ) (ps : List Placed) → NeverFalls least ps → NeverFalls least (take k ps)
order_taken least zero ps order = tt
order_taken least (suc k) [] order = tt
order_taken least (suc k) (p ∷ ps) order = (order.0, order_taken p.number k ps order.1)

taken_up_to : (made n k : ℕ) (ps : List Placed) → AreUpTo n ps → AllWithin (λ (p : Placed). p.number ≤ made) ps 0 k → AreUpTo made (take k ps)
taken_up_to made n zero ps all point = tt
taken_up_to made n (suc k) [] all point = tt
taken_up_to made n (suc k) (p ∷ ps) all point = (
  (all.0.0, point 0 p (omega arith) (omega arith)),
  taken_up_to made n k ps all.1 (λ j d low high. point (suc j) d (omega arith) (omega (arith, high))),
)

-- those behind the first of a higher number are left out
pub taken_is : (made k : ℕ) (ps actions : List Placed) → made ≤ 1000000 → IsOrdered ps
    → IsParted made k ps → ps ≡ placed_up_to 1000000 actions → take k ps ≡ placed_up_to made actions
taken_is made k ps actions few is point same =
    let all : AreUpTo 1000000 ps = up_to_last ps (recursion_from_All IsPlace ps is.places) in
    let at_each : (j : ℕ) → 1 ≤ j → j ≤ made → placed_at j (take k ps) ≡ placed_at j actions =
    λ j low high. stop (λ (p : Placed). p.number) ps k j (λ i d from less. omega (arith, point.behind i d from less, high))
    ∙ ap (placed_at j) same
    ∙ at_up_to j 1000000 actions low (omega (arith, high, few)) in
    sym (up_to_itself made 0 (take k ps) (order_taken 0 k ps is.order) (taken_up_to made 1000000 k ps all point.before))
    ∙ up_to_same made (take k ps) actions at_each
