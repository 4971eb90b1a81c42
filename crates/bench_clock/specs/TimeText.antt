-- A time of day as text: YYYY-MM-DDTHH:MM:SS and seven digits of a second behind a point (ISO 8601, UTC), or without a
-- year the day of it, DDD:HH:MM:SS and the same digits.
use Rattle.std.specs.Prelude.{ℕ, ◌+◌, ◌/◌, ◌%◌, List, [], ◌∷◌, ◌++◌}
use Rattle.bench_clock.specs.Calendar.{Day, day_numbered}
use Rattle.bench_clock.specs.declared.day_text.TimeText.{TimeText}
use Rattle.bench_clock.specs.declared.day_text.TimeText.TheVariants.{Utc, OfYear}
use Rattle.bench_clock.specs.Time.{Time, in_utc, in_year}

-- the last decimal digit of a number
abbrev pub digit : ℕ → ℕ
digit n = 48 + n % 10

-- the hours, minutes and seconds of a second of a day, and ticks of 0.1 µs of it
abbrev pub hours_text : ℕ → ℕ → List ℕ
hours_text second ticks =
    digit (second / 36000) ∷ digit (second / 3600)
    ∷ 58 ∷ digit (second / 60 % 60 / 10) ∷ digit (second / 60 % 60)
    ∷ 58 ∷ digit (second % 60 / 10) ∷ digit (second % 60)
    ∷ 46 ∷ digit (ticks / 1000000) ∷ digit (ticks / 100000) ∷ digit (ticks / 10000) ∷ digit (ticks / 1000)
    ∷ digit (ticks / 100) ∷ digit (ticks / 10) ∷ digit ticks
    ∷ []

-- a day, in front of a second of it
abbrev pub date_text : Day → List ℕ
date_text d =
    digit (d.year / 1000) ∷ digit (d.year / 100) ∷ digit (d.year / 10) ∷ digit d.year
    ∷ 45 ∷ digit (d.month / 10) ∷ digit d.month
    ∷ 45 ∷ digit (d.day / 10) ∷ digit d.day
    ∷ 84 ∷ []

-- a day, a second of it, and ticks of 0.1 µs of that second
abbrev pub time_of_day_text : Day → ℕ → ℕ → List ℕ
time_of_day_text d second ticks = date_text d ++ hours_text second ticks

-- the time so many ticks of 0.1 µs behind 1970-01-01T00:00:00
abbrev pub time_text : ℕ → List ℕ
time_text ticks = time_of_day_text (day_numbered (ticks / 10000000 / 86400)) (ticks / 10000000 % 86400)
    (ticks % 10000000)

-- a day of a year, the first 1, a second of it, and ticks of that second
abbrev pub day_of_year_text : ℕ → ℕ → ℕ → List ℕ
day_of_year_text day second ticks =
    digit (day / 100) ∷ digit (day / 10) ∷ digit day ∷ 58 ∷ hours_text second ticks

-- the time so many ticks of 0.1 µs behind the begin of a year
abbrev pub year_text : ℕ → List ℕ
year_text ticks = day_of_year_text (ticks / 10000000 / 86400 + 1) (ticks / 10000000 % 86400) (ticks % 10000000)

abbrev pub text_of : Time → List ℕ
text_of (in_utc ticks) = time_text ticks
text_of (in_year ticks) = year_text ticks

-- the bytes of a text
abbrev pub written : TimeText → List ℕ
written (Utc bytes) = bytes
written (OfYear bytes) = bytes
