-- Messages that recur with a period, in ticks of 0.1 µs (own choice).
use Rattle.std.specs.Prelude.{ℕ, Bool, nat_le, ◌/◌}
use Rattle.std.specs.Int.{abs_diff}

-- the time from one message to the next is the period, but for an eighth of it
abbrev pub is_near : ℕ → ℕ → Bool
is_near time period = nat_le (abs_diff time period) (period / 8)
