-- Numbers that rise, or never fall.
use Rattle.std.proofs.Common.{◌≡◌, ℕ, suc, ◌-◌, ◌<◌, ◌≤◌, List, [], ◌∷◌, ◌++◌, refl, arith, length, get_or}
use Rattle.bc_machine.specs.declared.placed.Placed.{Placed}
use Rattle.bench_report.specs.Reports.{Rises, NeverFalls}
use Rattle.bench_report.specs.Drafts.{last_number, numbers}

pub rises-push : (above most : ℕ) (ns : List ℕ) (n : ℕ) → Rises above most ns → last_number above ns < n → n ≤ most → Rises above most (ns ++ n ∷ [])
rises-push above most [] n rises lt le = (lt, le, tt)
rises-push above most (m ∷ ns) n rises lt le = (rises.0, rises.1, rises-push m most ns n rises.2 lt le)

pub never_falls-push : (least : ℕ) (ps : List Placed) (p : Placed) → NeverFalls least ps → last_number least (numbers ps) ≤ p.number → NeverFalls least (ps ++ p ∷ [])
never_falls-push least [] p order le = (le, tt)
never_falls-push least (q ∷ ps) p order le = (order.0, never_falls-push q.number ps p order.1 le)

index_back : (n : ℕ) → suc (suc n) - 1 ≡ suc n
index_back n = omega arith

index_first : (n : ℕ) → suc n - 1 ≡ n
index_first n = omega arith

-- the last number stands at the last index
pub last_number-is : (above : ℕ) (ns : List ℕ) → 0 < length ns → last_number above ns ≡ get_or ns (length ns - 1) 0
last_number-is above [] some = absurd (omega arith)
last_number-is above (n ∷ []) some = refl
last_number-is above (n ∷ m ∷ ns) some =
    rw (index_back (length ns)) (rw (index_first (length ns)) at (last_number-is n (m ∷ ns) (omega arith)))

pub last_placed-is : (above : ℕ) (ps : List Placed) (d : Placed) → 0 < length ps → last_number above (numbers ps) ≡ (get_or ps (length ps - 1) d).number
last_placed-is above [] d some = absurd (omega arith)
last_placed-is above (p ∷ []) d some = refl
last_placed-is above (p ∷ q ∷ ps) d some =
    rw (index_back (length ps)) (rw (index_first (length ps)) at (last_placed-is p.number (q ∷ ps) d (omega arith)))
