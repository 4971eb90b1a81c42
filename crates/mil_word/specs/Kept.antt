-- How a wave is kept (inside the crate): an unsound one as its half bits, below 2^40, and a sound one as its word above
-- these.
use Rattle.std.specs.Prelude.{◌≡◌, ℕ, ◌+◌, ◌-◌, ◌/◌, ◌%◌, ◌^◌, ◌==◌, nat_lt, if◌then◌else◌, Bool, true, false, Option}
use Rattle.std.specs.Prelude.{Some, None}
use Rattle.std.proofs.Common.{ap, ◌∙◌}
use Rattle.mil_word.specs.declared.Sync.{Sync}
use Rattle.mil_word.specs.declared.Sync.TheVariants.{CommandSync, DataSync}
use Rattle.mil_word.specs.declared.Word.{Word}
use Rattle.mil_word.specs.Wave.{wave_of, word_of}

-- a word as a number: its value, and above it a one where its sync is that of a command
abbrev pub number_if : Sync → ℕ → ℕ
number_if DataSync value = value
number_if CommandSync value = 2 ^ 16 + value

abbrev pub word_number : Word → ℕ
word_number word = number_if word.sync word.value

abbrev pub word_at : ℕ → Word
word_at n = record { sync = if n / 2 ^ 16 == 0 then DataSync else CommandSync; value = n % 2 ^ 16 }

-- the half bits of a wave that is kept
abbrev pub half_bits_if : Bool → ℕ → ℕ
half_bits_if true kept = kept
half_bits_if false kept = wave_of (word_at (kept - 2 ^ 40))

abbrev pub half_bits_in : ℕ → ℕ
half_bits_in kept = half_bits_if (nat_lt kept (2 ^ 40)) kept

-- only an unsound wave is kept as its half bits
abbrev pub IsKeptIf : Bool → ℕ → Type 0
IsKeptIf true kept = word_of kept ≡ None
IsKeptIf false kept = (word_of (wave_of (word_at (kept - 2 ^ 40))) ≡ Some (word_at (kept - 2 ^ 40)))
    × (2 ^ 40 + word_number (word_at (kept - 2 ^ 40)) ≡ kept)

abbrev pub IsKept : ℕ → Type 0
IsKept kept = IsKeptIf (nat_lt kept (2 ^ 40)) kept

-- how the wave of these half bits is kept
abbrev pub kept_as : ℕ → Option Word → ℕ
kept_as half_bits None = half_bits
kept_as half_bits (Some word) = 2 ^ 40 + word_number word

abbrev pub kept_for : ℕ → ℕ
kept_for half_bits = kept_as half_bits (word_of half_bits)

kept_back_if : (sound : Bool) (kept : ℕ) → IsKeptIf sound kept → kept_for (half_bits_if sound kept) ≡ kept
kept_back_if true kept is = ap (kept_as kept) is
kept_back_if false kept is = ap (kept_as (wave_of (word_at (kept - 2 ^ 40)))) is.0 ∙ is.1

-- it is kept in no other way
pub kept_back : (kept : ℕ) → IsKept kept → kept_for (half_bits_in kept) ≡ kept
kept_back kept is = kept_back_if (nat_lt kept (2 ^ 40)) kept is
