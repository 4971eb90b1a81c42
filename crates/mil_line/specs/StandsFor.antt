-- What a plan keeps of its faults, and the list that it stands for.
use Rattle.std.specs.Prelude.{◌≡◌, ℕ, ◌≤◌, ◌==◌, true, List, [], ◌∷◌, ◌++◌, length, All, if◌then◌else◌}
use Rattle.std.specs.Prelude.{Option, Some, None}
use Rattle.std.specs.List.{list_all}
use Rattle.std.specs.List.Sorted.{IsNonDecreasing}
use Rattle.std.specs.Ordering.{nat_cmp}
use Rattle.std.specs.BTreeMap.{BTreeMap, get}
use Rattle.arrayvec.specs.ArrayVec.{ArrayVec}
use Rattle.mil_line.specs.declared.faults.Fault.{Fault}
use Rattle.mil_line.specs.Plans.{Planned, faults_of}
use Rattle.mil_line.specs.Ranges.{is_in_range}

-- ---- the faults that came by rising numbers

-- numbers that never fall, and a fault beside each
pub record AreRising (numbers : List ℕ) (faults : List Fault) : Type 0 where
  pub rising : IsNonDecreasing numbers
  pub beside : length faults ≡ length numbers

-- the number is at or behind each of these
abbrev pub IsBehind : ℕ → List Planned → Type 0
IsBehind number planned = All (λ (p : Planned). p.0 ≤ number) planned

-- ---- those that came late, behind one of a number above

abbrev pub Late : Type 0
Late = BTreeMap ℕ (ArrayVec Fault)

abbrev pub items_in : Option (ArrayVec Fault) → List Fault
items_in None = []
items_in (Some faults) = faults.items

abbrev pub late_of : ℕ → Late → List Fault
late_of number late = items_in (get nat_cmp late number)

-- a fault more of one message, behind its others
abbrev pub HasOneMore : ℕ → Fault → Late → Late → Type 0
HasOneMore number fault old new = (q : ℕ)
    → late_of q new ≡ (if number == q then late_of q old ++ fault ∷ [] else late_of q old)

-- ---- all of them

-- Of each message the faults that came in their turn were added before those that came late; they are four at most, and
-- in range. None came late of a number that may still stand behind those that came in their turn.
pub record AreFaultsByNumber (rising : List Planned) (late : Late) (plan : List Planned) : Type 0 where
  pub faults : (number : ℕ) → faults_of number rising ++ late_of number late ≡ faults_of number plan
  pub in_turn : (number : ℕ) → IsBehind number rising → late_of number late ≡ []
  pub few : (number : ℕ) → length (faults_of number plan) ≤ 4
  pub in_range : (number : ℕ) → list_all is_in_range (faults_of number plan) ≡ true
