-- The ranges of the numbers of a signal (own choice): of its place among the data words of a message, of which there
-- are 32 at most (MIL-STD-1553B 4.3.3.5.1.5), of its scale and offset and of what is named.
use Rattle.std.specs.Prelude.{ℕ, ◌+◌, ◌-◌, ◌%◌, ◌^◌, ◌==◌, nat_le, nat_lt, Bool, not, ◌&&◌, List}
use Rattle.std.specs.List.{list_all}
use Rattle.signal_dictionary.specs.declared.decimals.Decimal.{Decimal}
use Rattle.signal_dictionary.specs.declared.signals.Kind.{Kind}
use Rattle.signal_dictionary.specs.declared.signals.Kind.TheVariants.{Unsigned, Signed, Decimals, Names}
use Rattle.signal_dictionary.specs.declared.signals.Naming.{Naming}
use Rattle.signal_dictionary.specs.declared.signals.Place.{Place}
use Rattle.signal_dictionary.specs.declared.signals.Place.TheVariants.{Bits, Pair}
use Rattle.signal_dictionary.specs.declared.signals.Scaling.{Scaling}

-- how many bits a signal has
abbrev pub width_of : Place → ℕ
width_of (Bits word high low) = high + 1 - low
width_of (Pair first) = 32

abbrev pub is_place : Place → Bool
is_place (Bits word high low) = nat_le 1 word && nat_le word 32 && nat_le low high && nat_le high 15
is_place (Pair first) = nat_le 1 first && nat_le first 31

-- 18 digits, of which one stands in front of the point
abbrev pub is_decimal : Decimal → Bool
is_decimal d = nat_lt d.digits (10 ^ 18) && nat_le d.places 17

abbrev pub is_nought : Decimal → Bool
is_nought d = d.digits == 0

-- a scale is not zero
abbrev pub is_scaling : Scaling → Bool
is_scaling s = is_decimal s.scale && not (is_nought s.scale) && is_decimal s.offset

abbrev pub is_numbered : Naming → Bool
is_numbered n = nat_le n.number 9999999

abbrev pub are_numbered : List Naming → Bool
are_numbered found = list_all is_numbered found

-- decimal digits have four bits each
abbrev pub is_kind : ℕ → Kind → Bool
is_kind width (Unsigned s) = is_scaling s
is_kind width (Signed s) = is_scaling s
is_kind width (Decimals s) = (width % 4 == 0) && is_scaling s
is_kind width (Names found) = are_numbered found.items

abbrev pub is_fitting : Place → Kind → Bool
is_fitting place kind = is_place place && is_kind (width_of place) kind
