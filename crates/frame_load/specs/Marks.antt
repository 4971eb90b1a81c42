-- What the loader counts and notes on its way over the operations.
use Rattle.std.specs.Prelude.{◌≡◌, ℕ, ◌+◌, ◌-◌, ◌^◌, ◌<◌, ◌≤◌, min, Bool, not, if◌then◌else◌, List, [], ◌∷◌, length}
use Rattle.std.specs.Prelude.{get_or, Option, Some, None}
use Rattle.std.specs.List.{filter}
use Rattle.frame_code.specs.declared.Op.{Op}
use Rattle.frame_code.specs.declared.Op.TheVariants.{Loop, Again, Call, Return, Begin, Pace}
use Rattle.frame_code.specs.Routines.{owner_at}
use Rattle.frame_code.specs.Loadable.{open_at, opens_loop, OpensLoop, OpensFrame, HasRoom, Each}
use Rattle.frame_load.specs.Budget.{one_each, one_sent, one_period, weight}
use Rattle.frame_load.specs.declared.sums.Counted.{Counted}
use Rattle.frame_load.specs.declared.sums.Counted.TheVariants.{Steps, Messages, Periods}
use Rattle.frame_load.specs.declared.nesting.Kind.{Kind}
use Rattle.frame_load.specs.declared.nesting.Kind.TheVariants.{Loops, Frames}
use Rattle.frame_load.specs.declared.nesting.Effect.{Effect}
use Rattle.frame_load.specs.declared.nesting.Effect.TheVariants.{Opens, Closes, Calls, Ends, Keeps}

-- the innermost of these brackets, as the place of what opens it plus one; 0 for none
abbrev pub innermost : List ℕ → ℕ
innermost [] = 0
innermost (s ∷ st) = s + 1

-- each place is marked with its innermost bracket
abbrev pub AreBrackets : List Op → List ℕ → Type 0
AreBrackets os marks = (p : ℕ) → p < length os → get_or marks p 0 ≡ innermost (open_at os p)

-- each place is marked with its weight, or with 2^46 + 1 where that is more
abbrev pub AreWeights : List Op → List ℕ → Type 0
AreWeights os marks = (p : ℕ) → p < length os → get_or marks p 0 ≡ min (2 ^ 46 + 1) (weight os p)

-- what an operation costs where this is counted
abbrev pub counted : Counted → Op → ℕ
counted Steps = one_each
counted Messages = one_sent
counted Periods = one_period

-- the kind of the innermost of these brackets
abbrev pub kind_at : List Op → List ℕ → Option Kind
kind_at os [] = None
kind_at os (s ∷ st) = Some (if opens_loop os s then Loops else Frames)

-- whether what opens a bracket of this kind stands at a place where a bracket is opened
abbrev pub is_of : Kind → List Op → ℕ → Bool
is_of Loops os p = opens_loop os p
is_of Frames os p = not (opens_loop os p)

-- how many brackets of a kind there are among these, and how many a place stands in
abbrev pub count_in : Kind → List Op → List ℕ → ℕ
count_in kind os st = length (filter (is_of kind os) st)

abbrev pub open_of : Kind → List Op → ℕ → ℕ
open_of kind os p = count_in kind os (open_at os p)

abbrev pub most_of : Kind → ℕ
most_of Loops = 17
most_of Frames = 16

abbrev pub OpensA : Kind → Op → Type 0
OpensA Loops o = OpensLoop o
OpensA Frames o = OpensFrame o

-- no more brackets of a kind are open at once than may be
pub record HasRoomFor (kind : Kind) (os : List Op) : Type 0 where
  pub room : ℕ → ℕ
  pub enough : Each os (λ p. HasRoom (OpensA kind) room (owner_at os p) (open_of kind os p))
  pub at_most : (r : ℕ) → room r ≤ most_of kind

-- what an operation does to how many brackets of a kind are open
abbrev pub effect_of : Op → Kind → Effect
effect_of (Loop n) Loops = Opens
effect_of (Loop n) Frames = Keeps
effect_of (Again i) Loops = Closes
effect_of (Again i) Frames = Keeps
effect_of Begin Loops = Keeps
effect_of Begin Frames = Opens
effect_of (Pace h) Loops = Keeps
effect_of (Pace h) Frames = Closes
effect_of (Call r) kind = Calls r
effect_of Return kind = Ends
effect_of _ kind = Keeps

-- how many are open behind it
abbrev pub depth_after : Effect → ℕ → ℕ
depth_after Opens n = n + 1
depth_after Closes n = n - 1
depth_after _ n = n

-- how many are open at once when it opens one, or what it calls does; each routine that ended has so many open at once
abbrev pub peak_of : Effect → ℕ → List ℕ → ℕ
peak_of Opens n ended = n + 1
peak_of (Calls r) n ended = n + get_or ended r 0
peak_of _ n ended = 0
