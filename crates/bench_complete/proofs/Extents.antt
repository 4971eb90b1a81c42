-- The lowest and the highest counter of packets.
use Rattle.std.proofs.Common.{◌≡◌, ℕ, zero, suc, ◌+◌, ◌-◌, ◌*◌, ◌<◌, ◌≤◌, min, max, List, [], ◌∷◌, ◌++◌, Option, None, Some, refl, sym, ap, subst, ◌∙◌, arith}
use Rattle.std.specs.List.{AllByRecursion}
use Rattle.bench_complete.specs.declared.extent.Extent.{Extent}
use Rattle.bench_complete.specs.declared.times.Times.{Times}
use Rattle.bench_complete.specs.Pieces.{Piece}
use Rattle.bench_complete.specs.TimePackets.{times_from, times_in}
use Rattle.bench_complete.specs.Complete.{extent_behind, extent_of, low_of}

abbrev pub AreFrom : ℕ → List Piece → Type 0
AreFrom low ps = AllByRecursion (λ (p : Piece). low ≤ p.header.counter) ps

pub low_stays : (e : Extent) (ps : List Piece) → AreFrom e.low ps → low_of (extent_behind (Some e) ps) ≡ e.low
low_stays e [] all = refl
low_stays e (p ∷ ps) all =
    let same : min e.low p.header.counter ≡ e.low = omega (arith, all.0) in
    let rest : AreFrom (min e.low p.header.counter) ps = subst (λ (k : ℕ). AreFrom k ps) (sym same) all.1 in
    low_stays (record { low = min e.low p.header.counter; high = max e.high p.header.counter }) ps rest ∙ same

pub record IsBelow (x : Option Extent) (ps : List Piece) (e : Extent) : Type 0 where
  pub before : (y : Extent) → x ≡ Some y → e.low ≤ y.low
  pub all : AreFrom e.low ps

lowest_by : (y : Extent) (p : Piece) (ps : List Piece) (e : Extent) → IsBelow (Some (record { low = min y.low p.header.counter; high = max y.high p.header.counter })) ps e → IsBelow (Some y) (p ∷ ps) e
lowest_by y p ps e b =
    let le = b.before (record { low = min y.low p.header.counter; high = max y.high p.header.counter }) refl in
    let here : e.low ≤ p.header.counter = omega (arith, le) in
    record { before = λ z is. let same : y ≡ z = cc in subst (λ (w : Extent). e.low ≤ w.low) same (omega (arith, le)); all = (here, b.all) }

lowest_first : (p : Piece) (ps : List Piece) (e : Extent) → IsBelow (Some (record { low = p.header.counter; high = p.header.counter })) ps e → IsBelow None (p ∷ ps) e
lowest_first p ps e b = record { before = λ z is. absurd (cc); all = (b.before (record { low = p.header.counter; high = p.header.counter }) refl, b.all) }

-- the lowest counter is below all
pub is_below : (x : Option Extent) (ps : List Piece) (e : Extent) → extent_behind x ps ≡ Some e → IsBelow x ps e
is_below x [] e is = record { before = λ y was. let same : y ≡ e = cc in subst (λ (w : Extent). w.low ≤ y.low) same (omega arith); all = tt }
is_below (Some y) (p ∷ ps) e is = lowest_by y p ps e (is_below (Some (record { low = min y.low p.header.counter; high = max y.high p.header.counter })) ps e is)
is_below None (p ∷ ps) e is = lowest_first p ps e (is_below (Some (record { low = p.header.counter; high = p.header.counter })) ps e is)

pub from_lower : (low least : ℕ) (ps : List Piece) → least ≤ low → AreFrom low ps → AreFrom least ps
from_lower low least [] le all = tt
from_lower low least (p ∷ ps) le all = (omega (arith, le, all.0), from_lower low least ps le all.1)

-- the highest counter is below a bound that all are below
pub high_below : (bound : ℕ) (x : Option Extent) (ps : List Piece) (e : Extent) → ((y : Extent) → x ≡ Some y → (y.low < bound) × (y.high < bound)) → AllByRecursion (λ (p : Piece). p.header.counter < bound) ps
    → extent_behind x ps ≡ Some e → (e.low < bound) × (e.high < bound)
high_below bound x [] e before all is = before e is
high_below bound (Some y) (p ∷ ps) e before all is =
    let b = before y refl in
    high_below bound (Some (record { low = min y.low p.header.counter; high = max y.high p.header.counter })) ps e
    (λ z was. let same : record { low = min y.low p.header.counter; high = max y.high p.header.counter } ≡ z = cc in
    subst (λ (w : Extent). (w.low < bound) × (w.high < bound)) same (omega (arith, b.0, all.0), omega (arith, b.1, all.0))) all.1 is
high_below bound None (p ∷ ps) e before all is =
    high_below bound (Some (record { low = p.header.counter; high = p.header.counter })) ps e
    (λ z was. let same : record { low = p.header.counter; high = p.header.counter } ≡ z = cc in
    subst (λ (w : Extent). (w.low < bound) × (w.high < bound)) same (all.0, all.0)) all.1 is

times_above : (t : Times) (low count second : ℕ) → low ≤ second * 10000000 → AreFrom low (times_from t count second)
times_above t low zero second le = tt
times_above t low (suc count) second le = (le, times_above t low count (second + 1) (omega (arith, le)))

-- time packets from the last second at or before the lowest counter are in front of all
pub low_with_times : (t : Times) (ks : List Piece) (e : Extent) → t.first < t.end → t.first * 10000000 ≤ e.low → extent_of ks ≡ Some e → low_of (extent_of (times_in t ++ ks)) ≡ t.first * 10000000
low_with_times t ks e some le is =
    let count : t.end - t.first ≡ suc (t.end - t.first - 1) = omega (arith, some) in
    let whole : times_in t ≡ times_from t (suc (t.end - t.first - 1)) t.first = ap (λ (k : ℕ). times_from t k t.first) count in
    let first : Extent = record { low = t.first * 10000000; high = t.first * 10000000 } in
    let above : AreFrom (t.first * 10000000) (times_from t (t.end - t.first - 1) (t.first + 1) ++ ks) =
    all_both (t.first * 10000000) (times_from t (t.end - t.first - 1) (t.first + 1)) ks (times_above t (t.first * 10000000) (t.end - t.first - 1) (t.first + 1) (omega arith))
    (from_lower e.low (t.first * 10000000) ks le (is_below None ks e is).all) in
    ap (λ (l : List Piece). low_of (extent_of (l ++ ks))) whole ∙ low_stays first (times_from t (t.end - t.first - 1) (t.first + 1) ++ ks) above
  where
    all_both : (low : ℕ) (ps qs : List Piece) → AreFrom low ps → AreFrom low qs → AreFrom low (ps ++ qs)
    all_both low [] qs a b = b
    all_both low (p ∷ ps) qs a b = (a.0, all_both low ps qs a.1 b)
