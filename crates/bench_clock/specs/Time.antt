-- A time of day, in ticks of 0.1 µs: in UTC, behind 1970-01-01T00:00:00, or of a year that is not named, behind its
-- begin.
use Rattle.std.specs.Prelude.{ℕ}
use Rattle.bench_clock.specs.declared.time.TimeOfDay.{TimeOfDay}
use Rattle.bench_clock.specs.declared.time.TimeOfDay.TheVariants.{Utc, OfYear}

pub data Time : Type 0 where
  in_utc : ℕ → Time
  in_year : ℕ → Time

abbrev pub time_of : TimeOfDay → Time
time_of (Utc t) = in_utc t.ticks
time_of (OfYear t) = in_year t.ticks
