-- The rules of planned faults. No public clause cites this module.
use Rattle.std.specs.Prelude.{◌≡◌, ℕ, Bool, List, All, length, map}
use Rattle.judge_rules.specs.declared.rules.Selector.{Selector}
use Rattle.job_moments.specs.declared.chunks.Chunk.{Chunk}
use Rattle.job_moments.specs.declared.groups.Group.{Group}
use Rattle.job_moments.specs.declared.met.Met.{Met}
use Rattle.job_moments.specs.declared.planning.Rule.{Rule}
use Rattle.job_moments.specs.Chunks.{Knows}
use Rattle.job_moments.specs.Counting.{Counted, HasCounter}
use Rattle.job_moments.specs.Groups.{lines_of_groups, KnowsInside}
use Rattle.job_moments.specs.Planning.{counted_of, is_occasion, MayStand, PlannedFault}

abbrev pub planned_of : Rule → PlannedFault
planned_of r = record { occasion = r.occasion; fault = r.fault }

abbrev pub plans_of : List Rule → List PlannedFault
plans_of rules = map planned_of rules

-- when a rule is due
abbrev pub occasion_of : Rule → List Met → Met → Bool
occasion_of r made next = is_occasion made next r.occasion

-- its counter counts what its occasion counts
pub record HasItsCounter (selectors : List Selector) (r : Rule) : Type 0 where
  pub counter : HasCounter selectors r.counter (counted_of r.occasion)
  pub stands : MayStand r.occasion

-- each rule has its counter, and none is due at the messages that are quiet
abbrev pub KnowsChunk : Counted → Chunk Rule → Type 0
KnowsChunk counts c = Knows (HasItsCounter counts.selectors) occasion_of counts.made c

-- the same of the chunks of a group, and of all their rules
abbrev pub KnowsGroup : Counted → Group Rule → Type 0
KnowsGroup counts g = KnowsInside (HasItsCounter counts.selectors) occasion_of counts.made g

pub record AllKnow (groups : List (Group Rule)) (counts : Counted) (number : ℕ) : Type 0 where
  pub known : All (KnowsGroup counts) groups
  pub count : number ≡ length (lines_of_groups groups)
