-- Exact numbers of 17 decimal places, as integers of units of 10^-17 (own choice).
use Rattle.std.specs.Prelude.{ℕ, ◌+◌, ◌-◌, ◌*◌, ◌^◌, Bool, true, false, not, ◌&&◌, ℤ, pos, neg_ℤ, ◌+ℤ◌, ◌*ℤ◌, int_le}
use Rattle.signal_dictionary.specs.declared.decimals.Decimal.{Decimal}
use Rattle.signal_dictionary.specs.declared.signals.Scaling.{Scaling}
use Rattle.signal_values.specs.declared.exact.Amount.{Amount}
use Rattle.signal_values.specs.declared.scaling.Raw.{Raw}

-- how many of them one is
abbrev pub unit : ℕ
unit = 100000000000000000

-- a number by its sign
abbrev pub signed : Bool → ℕ → ℤ
signed false n = pos n
signed true n = neg_ℤ (pos n)

-- the sign of a product
abbrev pub product_sign : Bool → Bool → Bool
product_sign true m = not m
product_sign false m = m

abbrev pub magnitude_of : Amount → ℕ
magnitude_of a = a.whole * unit + a.part

abbrev pub number_of : Amount → ℤ
number_of a = signed a.negative (magnitude_of a)

-- a decimal of at most 17 places in these units
abbrev pub units_of : Decimal → ℤ
units_of d = signed d.negative (d.digits * 10 ^ (17 - d.places))

-- a whole number times the scale plus the offset
abbrev pub scaled_by : Scaling → ℤ → ℤ
scaled_by s n = n *ℤ units_of s.scale +ℤ units_of s.offset

abbrev pub whole_of : Raw → ℤ
whole_of raw = signed raw.negative raw.magnitude

-- two numbers differ by at most so much
abbrev pub are_within : ℤ → ℤ → ℤ → Bool
are_within most one other = int_le one (other +ℤ most) && int_le other (one +ℤ most)
