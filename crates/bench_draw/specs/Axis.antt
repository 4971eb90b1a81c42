-- The axis of a picture, over a span of ticks of 0.1 µs (own choice).
use Rattle.std.specs.Prelude.{◌≡◌, nat_lt, ℕ, ◌*◌, ◌^◌, ◌⊎◌, if◌then◌else◌}
use Rattle.bench_draw.specs.declared.axis.Unit.{Unit}
use Rattle.bench_draw.specs.declared.axis.Unit.TheVariants.{Seconds, Milliseconds, Microseconds}

-- 1, 2 or 5 times a power of ten
abbrev pub IsRound : ℕ → Type 0
IsRound step =
    (power : ℕ) × ((step ≡ 10 ^ power) ⊎ (step ≡ 2 * 10 ^ power) ⊎ (step ≡ 5 * 10 ^ power))

-- a second has 10,000,000 ticks, a millisecond 10,000: a span is told in the largest of the three that it reaches
abbrev pub unit_of : ℕ → Unit
unit_of span =
    if nat_lt span (10 ^ 4) then Microseconds
    else if nat_lt span (10 ^ 7) then Milliseconds
    else Seconds
