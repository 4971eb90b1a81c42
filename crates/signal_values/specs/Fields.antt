-- The bits of data words that a signal names (own choice). Bit 0 is the last of a word on the line.
use Rattle.std.specs.Prelude.{ℕ, ◌+◌, ◌-◌, ◌*◌, ◌/◌, ◌%◌, ◌^◌}

-- from the upper one to the lower one
abbrev pub bits_of : ℕ → ℕ → ℕ → ℕ
bits_of word high low = word / 2 ^ low % 2 ^ (high - low + 1)

-- the first word is the upper half
abbrev pub pair_of : ℕ → ℕ → ℕ
pair_of first second = first * 65536 + second
