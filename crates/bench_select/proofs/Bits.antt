-- The bits of signals are as many as their width.
use Rattle.std.proofs.Common.{◌≡◌, ℕ, ◌+◌, ◌-◌, ◌/◌, ◌^◌, ◌<◌, ◌≤◌, true, subst, arith}
use Rattle.std.proofs.lemmas.Bool.{and_parts}
use Rattle.std.proofs.lemmas.Bool.Decides.{nat_tests}
use Rattle.std.proofs.Math.Nat.{mod-lt}
use Rattle.std.proofs.Math.Pow.{pow_pos}
use Rattle.std.specs.Prelude.{◌&&◌, nat_le}
use Rattle.signal_dictionary.specs.Fitting.{is_fitting, is_kind, is_place, width_of}
use Rattle.signal_dictionary.specs.declared.signals.Kind.{Kind}
use Rattle.signal_dictionary.specs.declared.signals.Place.{Place}
use Rattle.signal_dictionary.specs.declared.signals.Place.TheVariants.{Bits, Pair}
use Rattle.signal_values.specs.Fields.{bits_of, pair_of}

-- the parts of a place that is in its range
pub record IsBits (word high low : ℕ) : Type 0 where
  pub first : 1 ≤ word
  pub last : word ≤ 32
  pub order : low ≤ high
  pub most : high ≤ 15

pub bits_in_range : (word high low : ℕ) → is_place (Bits word high low) ≡ true → IsBits word high low
bits_in_range word high low is =
    let all = and_parts (nat_le 1 word && nat_le word 32 && nat_le low high) (nat_le high 15) is in
    let three = and_parts (nat_le 1 word && nat_le word 32) (nat_le low high) all.0 in
    let two = and_parts (nat_le 1 word) (nat_le word 32) three.0 in
    let a : nat_le high 15 ≡ true = all.1 in
    let b : nat_le low high ≡ true = three.1 in
    let c : nat_le 1 word ≡ true = two.0 in
    let d : nat_le word 32 ≡ true = two.1 in
    record { first = grind (arith, nat_tests); last = grind (arith, nat_tests); order = grind (arith, nat_tests); most = grind (arith, nat_tests) }

pub pair_in_range : (first : ℕ) → is_place (Pair first) ≡ true → (1 ≤ first) × (first ≤ 31)
pair_in_range first is =
    let all = and_parts (nat_le 1 first) (nat_le first 31) is in
    let a : nat_le 1 first ≡ true = all.0 in
    let b : nat_le first 31 ≡ true = all.1 in
    (grind (arith, nat_tests), grind (arith, nat_tests))

pub width_some : (place : Place) → is_place place ≡ true → 1 ≤ width_of place
width_some (Bits word high low) is = let r = bits_in_range word high low is in omega (arith, r.order)
width_some (Pair first) is = omega arith

pub width_most : (place : Place) → is_place place ≡ true → width_of place ≤ 32
width_most (Bits word high low) is = let r = bits_in_range word high low is in omega (arith, r.most)
width_most (Pair first) is = omega arith

pub bits_below : (word high low : ℕ) → low ≤ high → bits_of word high low < 2 ^ (high + 1 - low)
bits_below word high low order =
    let same : high - low + 1 ≡ high + 1 - low = omega arith in
    subst (λ (k : ℕ). bits_of word high low < 2 ^ k) same (mod-lt (word / 2 ^ low) {m = 2 ^ (high - low + 1)} (pow_pos (high - low + 1)))

pub pair_below : (first second : ℕ) → first < 65536 → second < 65536 → pair_of first second < 4294967296
pair_below first second a b = omega arith

-- a place and a kind that fit one another are each in their ranges
pub fitting_parts : (place : Place) (kind : Kind) → is_fitting place kind ≡ true → (is_place place ≡ true) × (is_kind (width_of place) kind ≡ true)
fitting_parts place kind is = and_parts (is_place place) (is_kind (width_of place) kind) is
