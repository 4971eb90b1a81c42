-- The time of a message, from ticks of 0.1 µs (IRIG 106-17 Chapter 11): seconds, and ticks behind the last whole one.
use Rattle.std.specs.Prelude.{ℕ, ◌/◌, ◌%◌, ◌^◌, List, ◌∷◌}
use Rattle.signal_values.specs.Texts.{digits_of}

abbrev pub seconds_of : ℕ → ℕ
seconds_of stamp = stamp / 10 ^ 7

abbrev pub ticks_of : ℕ → ℕ
ticks_of stamp = stamp % 10 ^ 7

-- a point and the seven decimals of a second
abbrev pub decimals_text : ℕ → List ℕ
decimals_text ticks = 46 ∷ digits_of 7 ticks
