-- Numbers in the lines of a job (own choice).
use Rattle.std.specs.Prelude.{ℕ, ◌&&◌, nat_le, if◌then◌else◌, Option, Some, None}
use Rattle.numerals.specs.Numerals.{spelled}
use Rattle.text_lines.specs.Words.{Text}
use Rattle.job_file.specs.Options.{◌>>=◌}
pub use Rattle.numerals.specs.Numerals.{number_of}

-- a number from low to high
abbrev pub within : ℕ → ℕ → ℕ → Option ℕ
within low high n = if nat_le low n && nat_le n high then Some n else None

abbrev pub number_within : ℕ → ℕ → Text → Option ℕ
number_within low high word = number_of word >>= (λ n. within low high n)

-- ten hexadecimal digits: forty half bits
abbrev pub half_bits_of : Text → Option ℕ
half_bits_of word = spelled 16 10 10 word

-- a start tick has one to fifteen decimal digits, and is at most 2^47
abbrev pub start_of : Text → Option ℕ
start_of word = spelled 10 1 15 word >>= (λ n. within 0 140737488355328 n)
