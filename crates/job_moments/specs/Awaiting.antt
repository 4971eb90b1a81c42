-- The lines of moments that are still to come. No public clause cites this module.
use Rattle.std.specs.Prelude.{◌≡◌, ℕ, ◌<◌, ◌++◌, ◌∷◌, Bool, true, false, List, All, length, map, take}
use Rattle.std.specs.Prelude.{slice_index_or, Option, Some, None}
use Rattle.judge_rules.specs.declared.rules.Selector.{Selector}
use Rattle.job_moments.specs.declared.chunks.Chunk.{Chunk}
use Rattle.job_moments.specs.declared.groups.Group.{Group}
use Rattle.job_moments.specs.declared.groups.Near.{Near}
use Rattle.job_moments.specs.declared.met.Met.{Met}
use Rattle.job_moments.specs.declared.quiet.Quiet.{Quiet}
use Rattle.job_moments.specs.declared.waiting.Pending.{Pending}
use Rattle.job_moments.specs.Chunks.{Knows}
use Rattle.job_moments.specs.Counting.{Counted, HasCounter}
use Rattle.job_moments.specs.Groups.{lines_of_groups, AllBeside, KnowsInside}
use Rattle.job_moments.specs.Moments.{counted_for, is_due}
use Rattle.job_moments.specs.Quiet.{Sleeps}
use Rattle.job_moments.specs.Waits.{Awaited}

module _ {T : Type 0} where
  abbrev pub awaited : Pending T → Awaited T
  awaited l = record { moment = l.moment; payload = l.payload }

  abbrev pub awaited_of : List (Pending T) → List (Awaited T)
  awaited_of lines = map awaited lines

  -- when a line is due
  abbrev pub due_of : Pending T → List Met → Met → Bool
  due_of l made next = is_due made next l.moment

  abbrev pub IsStill : List Met → Met → Pending T → Type 0
  IsStill made next l = due_of l made next ≡ false

  -- at this place stands the first line that is due
  pub record IsFirstAt (made : List Met) (next : Met) (lines : List (Pending T)) (place : ℕ) : Type 0 where
    pub there : place < length lines
    pub before : All (IsStill made next) (take place lines)
    pub due : (d : Pending T) → due_of (slice_index_or lines place d) made next ≡ true

  abbrev pub IsFirst : List Met → Met → List (Pending T) → Option ℕ → Type 0
  IsFirst made next lines None = All (IsStill made next) lines
  IsFirst made next lines (Some place) = IsFirstAt made next lines place

  -- the first of the old lines that is due is taken out
  pub record IsPicked (made : List Met) (next : Met) (old new : List (Pending T)) (payload : T) : Type 0 where
    pub front : List (Pending T)
    pub one : Pending T
    pub rest : List (Pending T)
    pub still : All (IsStill made next) front
    pub due : due_of one made next ≡ true
    pub old_is : old ≡ front ++ one ∷ rest
    pub new_is : new ≡ front ++ rest
    pub given : payload ≡ one.payload

  -- if there is one
  abbrev pub Picks : List Met → Met → List (Pending T) → List (Pending T) → Option T → Type 0
  Picks made next old new None = All (IsStill made next) old × (new ≡ old)
  Picks made next old new (Some payload) = IsPicked made next old new payload

  -- its counter counts what its moment counts
  abbrev pub HasItsCounter : List Selector → Pending T → Type 0
  HasItsCounter selectors l = HasCounter selectors l.counter (counted_for l.moment)

  -- each line has its counter, and none is due in front of the messages that are quiet
  abbrev pub KnowsChunk : Counted → Chunk (Pending T) → Type 0
  KnowsChunk counts c = Knows (HasItsCounter counts.selectors) due_of counts.made c

  -- the same of the chunks of a group, and of all their lines
  abbrev pub KnowsGroup : Counted → Group (Pending T) → Type 0
  KnowsGroup counts g = KnowsInside (HasItsCounter counts.selectors) due_of counts.made g

  -- no line of the groups but the one of a place is due at the messages that are quiet
  abbrev pub SleepBeside : List Met → Quiet → ℕ → List (Group (Pending T)) → Type 0
  SleepBeside made quiet place groups = AllBeside (λ (l : Pending T). Sleeps quiet made (due_of l)) place groups

  pub record AllKnow (groups : List (Group (Pending T))) (near : Near) (counts : Counted) (number : ℕ) : Type 0 where
    pub known : All (KnowsGroup counts) groups
    pub beside : SleepBeside counts.made near.others near.place groups
    pub count : number ≡ length (lines_of_groups groups)
