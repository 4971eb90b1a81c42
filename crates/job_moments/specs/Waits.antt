-- The moments that are still to come, in the order of the text, and the messages that were made.
use Rattle.std.specs.Prelude.{◌≡◌, ℕ, List, map, slice_get, Option, Some, None}
use Rattle.std.specs.List.{position, remove}
use Rattle.std.specs.Option.{option_map}
use Rattle.job_moments.specs.declared.met.Met.{Met}
use Rattle.job_moments.specs.declared.moments.Moment.{Moment}
use Rattle.job_moments.specs.Moments.{is_due}

-- a moment, and what is due at it
pub record Awaited (T : Type 0) : Type 0 where
  pub moment : Moment
  pub payload : T

pub record Waits (T : Type 0) : Type 0 where
  pub left : List (Awaited T)
  pub made : List Met

-- the place of the first of these that is due
abbrev pub first_due : List Met → Met → List Moment → Option ℕ
first_due made next left = position (is_due made next) left

module _ {T : Type 0} where
  abbrev pub moments_of : List (Awaited T) → List Moment
  moments_of left = map (λ (a : Awaited T). a.moment) left

  -- what is due at the moment of a place, if there is one
  abbrev pub given_at : Option ℕ → List (Awaited T) → Option T
  given_at None left = None
  given_at (Some place) left = option_map (λ (a : Awaited T). a.payload) (slice_get left place)

  -- it comes no more
  abbrev pub left_at : Option ℕ → List (Awaited T) → List (Awaited T)
  left_at None left = left
  left_at (Some place) left = remove left place

  -- the first of the old ones that is due is taken out and given; where none is, they are left
  pub record Taken (made : List Met) (next : Met) (old new : List (Awaited T)) (given : Option T) : Type 0 where
    pub first : given ≡ given_at (first_due made next (moments_of old)) old
    pub others : new ≡ left_at (first_due made next (moments_of old)) old
