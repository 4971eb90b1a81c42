-- How many steps a code takes at most, how many messages it sends, and what its periods come to (own choice): the sum
-- of what the operations of its main part cost, each as often as it can come, and a Call with what its routine costs.
use Rattle.std.specs.Prelude.{ℕ, zero, suc, ◌+◌, ◌*◌, List, [], ◌∷◌, ◌++◌, length, get_or, Option, Some, None}
use Rattle.std.specs.Prelude.{slice_get}
use Rattle.frame_code.specs.declared.Op.{Op}
use Rattle.frame_code.specs.declared.Op.TheVariants.{Send, Alt, Loop, Call, Return, Pace}
use Rattle.frame_code.specs.Loadable.{open_at}

-- each operation is a step
abbrev pub one_each : Op → ℕ
one_each o = 1

-- a Send or an Alt is a message
abbrev pub one_sent : Op → ℕ
one_sent (Send m) = 1
one_sent (Alt m) = 1
one_sent _ = 0

-- the period of a Pace, in ticks
abbrev pub one_period : Op → ℕ
one_period (Pace h) = 1000 * h
one_period _ = 0

-- how often a loop goes round
abbrev pub turns_of : Option Op → ℕ
turns_of (Some (Loop n)) = n
turns_of _ = 1

-- the product of the counts of the loops among these brackets, each given by its place
abbrev pub weight_in : List Op → List ℕ → ℕ
weight_in os [] = 1
weight_in os (s ∷ st) = turns_of (slice_get os s) * weight_in os st

-- the weight of a place in its routine: the product of the counts of the loops that it stands in
abbrev pub weight : List Op → ℕ → ℕ
weight os p = weight_in os (open_at os p)

-- what the operations of a routine cost before a place, and what each routine costs that ended before it, its Calls
-- counted with what they call
pub record Sums : Type 0 where
  pub now : ℕ
  pub ended : List ℕ

-- what the routine of a Call costs
abbrev pub cost_called : Op → List ℕ → ℕ
cost_called (Call r) costs = get_or costs r 0
cost_called _ costs = 0

module _ (cost : Op → ℕ) where
  abbrev pub cost_of : Option Op → ℕ
  cost_of None = 0
  cost_of (Some o) = cost o

  -- an operation counts as often as its weight says, a Call together with its routine
  abbrev pub sums_after : Option Op → ℕ → Sums → Sums
  sums_after None w s = s
  sums_after (Some Return) w s = record { now = 0; ended = s.ended ++ (s.now + w * cost Return) ∷ [] }
  sums_after (Some o) w s = record { now = s.now + w * (cost o + cost_called o s.ended); ended = s.ended }

  abbrev pub sums_at : List Op → ℕ → Sums
  sums_at os zero = record { now = 0; ended = [] }
  sums_at os (suc p) = sums_after (slice_get os p) (weight os p) (sums_at os p)

  -- what the main part costs
  abbrev pub total : List Op → ℕ
  total os = (sums_at os (length os)).now

-- how many steps a run takes at most
abbrev pub budget : List Op → ℕ
budget os = total one_each os

-- how many ticks its periods have together
abbrev pub periods : List Op → ℕ
periods os = total one_period os

-- how many messages it sends at most
abbrev pub worst_messages : List Op → ℕ
worst_messages os = total one_sent os
