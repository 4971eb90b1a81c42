-- When planned faults are due (own choice): by number, at the first message that starts at a time or later, by place
-- among the messages that a selector is about, or at each of these in a time. Of those that are due at one message the
-- first four of the text count.
use Rattle.std.specs.Prelude.{◌≡◌, ℕ, ◌+◌, ◌-◌, ◌%◌, ◌==◌, ◌&&◌, ◌≤◌, ◌<◌, ⊤, nat_le, Bool, false, not, if◌then◌else◌}
use Rattle.std.specs.Prelude.{List, [], ◌∷◌, ◌++◌, length, take, Option, Some, None}
use Rattle.judge_rules.specs.declared.rules.Selector.{Selector}
use Rattle.std.specs.List.{filter_map, list_any}
use Rattle.mil_line.specs.declared.faults.Fault.{Fault}
use Rattle.job_moments.specs.declared.met.Met.{Met}
use Rattle.job_moments.specs.declared.moments.Moment.TheVariants.{Time, Nth}
use Rattle.job_moments.specs.declared.occasions.Occasion.{Occasion}
use Rattle.job_moments.specs.declared.occasions.Occasion.TheVariants.{Numbers, Once, Places, Window}
use Rattle.job_moments.specs.declared.occasions.Turns.{Turns}
use Rattle.job_moments.specs.Moments.{counted_for, is_about, count_of, is_due, starts_by}

-- FIRST, FIRST + STEP and so on, up to LAST
abbrev pub is_turn : Turns → ℕ → Bool
is_turn t place = nat_le t.first place && nat_le place t.last && (place - t.first) % t.step == 0

-- at the message that comes next, behind these
abbrev pub is_occasion : List Met → Met → Occasion → Bool
is_occasion made next (Numbers turns) = is_turn turns (length made + 1)
is_occasion made next (Once (Time ticks)) = starts_by ticks next && not (list_any (starts_by ticks) made)
is_occasion made next (Once (Nth selector place)) = is_due made next (Nth selector place)
is_occasion made next (Places selector turns) = is_about selector next && is_turn turns (count_of selector made + 1)
is_occasion made next (Window selector from to) =
    is_about selector next && nat_le from next.start && nat_le next.start to

pub record PlannedFault : Type 0 where
  pub occasion : Occasion
  pub fault : Fault

pub record PlanState : Type 0 where
  -- in the order of the text
  pub faults : List PlannedFault
  pub made : List Met

abbrev pub fault_at : List Met → Met → PlannedFault → Option Fault
fault_at made next p = if is_occasion made next p.occasion then Some p.fault else None

-- the first four of the text that are due at the next message
abbrev pub faults_at : List Met → Met → List PlannedFault → List Fault
faults_at made next faults = take 4 (filter_map (fault_at made next) faults)

-- the place of a planned fault, where it is due at the next message
abbrev pub place_at : List Met → Met → ℕ → PlannedFault → List ℕ
place_at made next place p = if is_occasion made next p.occasion then place ∷ [] else []

-- the places of all of these that are due at the next message, of which the first has this place
abbrev pub places_from : List Met → Met → ℕ → List PlannedFault → List ℕ
places_from made next first [] = []
places_from made next first (p ∷ ps) = place_at made next first p ++ places_from made next (first + 1) ps

-- turns are some places apart
abbrev pub AreApart : Turns → Type 0
AreApart t = 1 ≤ t.step

abbrev pub MayStand : Occasion → Type 0
MayStand (Numbers turns) = AreApart turns
MayStand (Once moment) = ⊤
MayStand (Places selector turns) = AreApart turns
MayStand (Window selector from to) = ⊤

-- which messages count for an occasion, if any do
abbrev pub counted_of : Occasion → Option Selector
counted_of (Numbers turns) = None
counted_of (Once moment) = counted_for moment
counted_of (Places selector turns) = Some selector
counted_of (Window selector from to) = None

-- a place at or behind another, in front of which no turn comes; None where none comes any more
abbrev pub IsNextTurn : Turns → ℕ → Option ℕ → Type 0
IsNextTurn t place None = (k : ℕ) → place ≤ k → is_turn t k ≡ false
IsNextTurn t place (Some next) = (place ≤ next) × ((k : ℕ) → place ≤ k → k < next → is_turn t k ≡ false)
