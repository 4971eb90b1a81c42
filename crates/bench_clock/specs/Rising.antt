-- What a clock keeps of its marks.
use Rattle.std.specs.Prelude.{◌≡◌, ℕ, ◌*◌, ◌<◌, ◌≤◌, List, slice_get, Some}
use Rattle.bench_clock.specs.declared.clock.Mark.{Mark}
use Rattle.bench_clock.specs.declared.told.PacketTime.{PacketTime}
use Rattle.bench_clock.specs.declared.told.PacketTime.TheVariants.{Utc, OfYear}
use Rattle.bench_clock.specs.TimeBody.{year_seconds}

-- a time of the years 1970 to 9999, or one of a year
abbrev pub IsWithin : PacketTime → Type 0
IsWithin (Utc ticks) = ticks < 2534023008000000000
IsWithin (OfYear leap ticks) = ticks < year_seconds leap * 10000000

-- no counter falls, and each time is within its years
pub record IsRising (ms : List Mark) : Type 0 where
  pub order : (i j : ℕ) (a b : Mark) → i ≤ j → slice_get ms i ≡ Some a → slice_get ms j ≡ Some b → a.counter ≤ b.counter
  pub times : (i : ℕ) (a : Mark) → slice_get ms i ≡ Some a → IsWithin a.time
