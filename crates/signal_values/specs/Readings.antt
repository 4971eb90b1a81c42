-- What the bits of a signal spell (own choice).
use Rattle.std.specs.Prelude.{ℕ, zero, suc, ◌+◌, ◌-◌, ◌*◌, ◌/◌, ◌%◌, ◌^◌, nat_le, nat_lt, if◌then◌else◌}
use Rattle.std.specs.Prelude.{ℤ, pos, neg_ℤ, Option, Some, None}
use Rattle.signal_dictionary.specs.declared.signals.Kind.{Kind}
use Rattle.signal_dictionary.specs.declared.signals.Kind.TheVariants.{Unsigned, Signed, Decimals, Names}
use Rattle.signal_dictionary.specs.declared.signals.Scaling.{Scaling}
use Rattle.signal_values.specs.Amounts.{number_of, scaled_by}
use Rattle.signal_values.specs.declared.readings.Reading.{Reading}
use Rattle.signal_values.specs.declared.readings.Reading.TheVariants as readings

-- no value, a number in units of 10^-17, or a number that may have a name
pub data Value : Type 0 where
  nothing : Value
  number : ℤ → Value
  named : ℕ → Value

-- two's complement of so many bits
abbrev pub complement : ℕ → ℕ → ℤ
complement width field = if nat_lt field (2 ^ (width - 1)) then pos field else neg_ℤ (pos (2 ^ width - field))

-- so many decimal digits of four bits each, the upper first
abbrev pub with_digit : Option ℕ → ℕ → Option ℕ
with_digit None digit = None
with_digit (Some upper) digit = if nat_le digit 9 then Some (upper * 10 + digit) else None

unfoldable pub decimals : ℕ → ℕ → Option ℕ
decimals zero field = Some 0
decimals (suc count) field = with_digit (decimals count (field / 16)) (field % 16)

abbrev pub scaled_if : Option ℕ → Scaling → Value
scaled_if None s = nothing
scaled_if (Some n) s = number (scaled_by s (pos n))

-- the value of so many bits
abbrev pub value_in : ℕ → Kind → ℕ → Value
value_in width (Unsigned s) field = number (scaled_by s (pos field))
value_in width (Signed s) field = number (scaled_by s (complement width field))
value_in width (Decimals s) field = scaled_if (decimals (width / 4) field) s
value_in width (Names found) field = named field

abbrev pub value_of : Reading → Value
value_of readings.Nothing = nothing
value_of (readings.Number a) = number (number_of a)
value_of (readings.Named n) = named n
