-- What the first difference of two readings of a channel says of them (own choice).
use Rattle.std.specs.Prelude.{◌≡◌, ℕ, ◌+◌, ◌<◌, List, Option, None, Some, slice_get, ◌↔◌}
use Rattle.ch11_layout.specs.Stamps.{Recorded}
use Rattle.ch11_reader.specs.Recording.{Found}
use Rattle.bench_select.specs.declared.selection.Selection.{Selection}
use Rattle.bench_compare.specs.Chosen.{chosen_in}
use Rattle.bench_compare.specs.Compared.{compared_in, differing}
use Rattle.bench_compare.specs.Differences.{difference, origins_of, part_of}
use Rattle.bench_compare.specs.declared.differences.Difference.{Difference}
use Rattle.bench_compare.specs.declared.differences.Origins.{Origins}
use Rattle.bench_compare.specs.declared.differences.Part.{Part}
use Rattle.bench_compare.specs.declared.differences.Part.TheVariants.{MissingInFirst, MissingInSecond}

-- both have a message there, which differ in no part within the ticks that times may be apart; or neither has one
abbrev pub AreSame : ℕ → Origins → Option Recorded → Option Recorded → Type 0
AreSame within o (Some a) (Some b) = part_of within o a b ≡ None
AreSame within o (Some a) None = ⊥
AreSame within o None (Some b) = ⊥
AreSame within o None None = Unit {0}

-- they differ, in this part first; or one of the two has no message there
abbrev pub DifferIn : Part → ℕ → Origins → Option Recorded → Option Recorded → Type 0
DifferIn part within o (Some a) (Some b) = part_of within o a b ≡ Some part
DifferIn part within o (Some a) None = part ≡ MissingInSecond
DifferIn part within o None (Some b) = part ≡ MissingInFirst
DifferIn part within o None None = ⊥

-- two readings of a channel are the same, message by message, their places counted from 0
abbrev pub AreSameReadings : ℕ → List Recorded → List Recorded → Type 0
AreSameReadings within xs ys =
    (place : ℕ) → AreSame within (origins_of xs ys) (slice_get xs place) (slice_get ys place)

-- no difference is told exactly where they are the same
abbrev pub NoDifference : Type 0
NoDifference = (within : ℕ) (xs ys : List Recorded) → (difference within xs ys ≡ None) ↔ AreSameReadings within xs ys

-- this is the first place at which they are not the same: the messages in front of it are
pub record IsFirst (within : ℕ) (xs ys : List Recorded) (d : Difference) : Type 0 where
  pub place : ℕ
  pub counted : d.number ≡ place + 1
  pub same : (k : ℕ) → k < place → AreSame within (origins_of xs ys) (slice_get xs k) (slice_get ys k)
  pub first : d.first ≡ slice_get xs place
  pub second : d.second ≡ slice_get ys place
  pub part : DifferIn d.part within (origins_of xs ys) (slice_get xs place) (slice_get ys place)
  pub origins : d.origins ≡ origins_of xs ys

-- a difference that is told is the first
abbrev pub FirstDifference : Type 0
FirstDifference =
    (within : ℕ) (xs ys : List Recorded) (d : Difference) → difference within xs ys ≡ Some d → IsFirst within xs ys d

-- no channel of two recordings differs exactly where the readings of each are the same
abbrev pub NoneDiffers : Type 0
NoneDiffers =
    (within : ℕ) (s t : Selection) (ps qs : List Found) → (differing (compared_in within s t ps qs) ≡ 0)
    ↔ ((channel : ℕ) → channel < 65536 → AreSameReadings within (chosen_in s channel ps) (chosen_in t channel qs))
