-- How many messages of two readings of a channel are the same (own choice): no part of them differs, to the tick.
use Rattle.std.specs.Prelude.{◌≡◌, ℕ, zero, suc, ◌+◌, Bool, false, if◌then◌else◌, List, length, max, slice_get}
use Rattle.std.specs.Prelude.{Option, None, Some, is_some, not, ◌↔◌}
use Rattle.ch11_layout.specs.Stamps.{Recorded}
use Rattle.bench_compare.specs.Differences.{origins_of, part_of}
use Rattle.bench_compare.specs.Laws.{AreSameReadings}
use Rattle.bench_compare.specs.declared.differences.Origins.{Origins}

-- both have a message there, which differ in no part
abbrev pub is_same : Origins → Option Recorded → Option Recorded → Bool
is_same o (Some a) (Some b) = not (is_some (part_of 0 o a b))
is_same o (Some a) None = false
is_same o None b = false

-- at how many of the first so many places
abbrev pub same_up_to : Origins → List Recorded → List Recorded → ℕ → ℕ
same_up_to o xs ys zero = 0
same_up_to o xs ys (suc n) =
    same_up_to o xs ys n + (if is_same o (slice_get xs n) (slice_get ys n) then 1 else 0)

-- how many places either of them has
abbrev pub places : List Recorded → List Recorded → ℕ
places xs ys = max (length xs) (length ys)

-- at how many places they are the same
abbrev pub same_in : List Recorded → List Recorded → ℕ
same_in xs ys = same_up_to (origins_of xs ys) xs ys (places xs ys)

-- all are the same exactly where the readings are the same message by message, to the tick
abbrev pub AllAreSame : Type 0
AllAreSame = (xs ys : List Recorded) → (same_in xs ys ≡ places xs ys) ↔ AreSameReadings 0 xs ys
