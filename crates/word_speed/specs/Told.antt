-- What the functions for callers in C answer.
use Rattle.std.specs.Prelude.{ℕ, ◌+◌, ◌%◌, ◌^◌, Option, Some, None}
use Rattle.mil_word.specs.declared.Sync.{Sync}
use Rattle.mil_word.specs.declared.Sync.TheVariants.{CommandSync, DataSync}
use Rattle.mil_word.specs.declared.Word.{Word}

abbrev told_sync : Sync → ℕ
told_sync CommandSync = 0
told_sync DataSync = 65536

-- a word as a number: its 16 bits, and 2^16 more with data sync; 2^17 where there is none
abbrev pub told : Option Word → ℕ
told None = 131072
told (Some word) = told_sync word.sync + word.value

-- the lowest forty bits, which are a wave
abbrev pub lowest_forty : ℕ → ℕ
lowest_forty half_bits = half_bits % 2 ^ 40
