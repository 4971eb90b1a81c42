-- The numbers that at most eighteen decimal digits spell.
use Rattle.std.proofs.Common.{◌≡◌, ℕ, List, zero, suc, ◌+◌, ◌*◌, ◌^◌, ◌<◌, ◌≤◌, [], ◌∷◌, length, take, refl, arith, get_or, zero-le}
use Rattle.std.proofs.lemmas.Bool.{and_parts}
use Rattle.std.proofs.lemmas.Bool.Decides.{nat_tests}
use Rattle.std.proofs.lemmas.Int.Digits.{digits_value_more, digits_value-lt}
use Rattle.std.proofs.Math.Nat.{mul-le-mul_right, pow-le-pow_right}
use Rattle.std.proofs.Math.Pow.{pow-add}
use Rattle.std.specs.Prelude.{true, ◌-◌, ◌&&◌, nat_le, nat_lt}
use Rattle.std.specs.Char.{digit_value}
use Rattle.std.specs.Str.Parse.{digits_value, AllDigits}
use Rattle.numerals.specs.Numerals.{are_digits}
use Rattle.numerals.proofs.Digits.{and_left, and_right}
use Rattle.signal_dictionary.specs.Decimals.{are_those_of_decimal}

all_digits : (text : List ℕ) → are_digits 10 text ≡ true → AllDigits 10 text
all_digits [] digits = tt
all_digits (b ∷ text) digits =
    let first : nat_lt (digit_value b) 10 ≡ true = and_left (nat_lt (digit_value b) 10) (are_digits 10 text) digits in
    (grind (arith, nat_tests), all_digits text (and_right (nat_lt (digit_value b) 10) (are_digits 10 text) digits))

are_digits-take : (i : ℕ) (text : List ℕ) → are_digits 10 text ≡ true → are_digits 10 (take i text) ≡ true
are_digits-take zero text digits = refl
are_digits-take (suc i) [] digits = refl
are_digits-take (suc i) (b ∷ text) digits =
    rw (and_left (nat_lt (digit_value b) 10) (are_digits 10 text) digits) (are_digits-take i text (and_right (nat_lt (digit_value b) 10) (are_digits 10 text) digits))

length-take-le : (n : ℕ) (text : List ℕ) → length (take n text) ≤ length text
length-take-le zero text = zero-le
length-take-le (suc n) [] = zero-le
length-take-le (suc n) (b ∷ text) = omega (arith, length-take-le n text)

ten_to : (k : ℕ) → k ≤ 18 → 10 ^ k ≤ 1000000000000000000
ten_to k few = pow-le-pow_right {n = 10} (omega arith) {i = k} {j = 18} few

-- digits spell a number below as many places
pub value-small : (text : List ℕ) → are_digits 10 text ≡ true → digits_value 10 text < 10 ^ length text
value-small text digits = digits_value-lt 10 text (all_digits text digits)

-- and so do those in front of a place
pub value-part : (text : List ℕ) (i : ℕ) → are_digits 10 text ≡ true → digits_value 10 (take i text) < 10 ^ length text
value-part text i digits =
    let small = value-small (take i text) (are_digits-take i text digits) in
    let top : 10 ^ length (take i text) ≤ 10 ^ length text = pow-le-pow_right {n = 10} (omega arith) {i = length (take i text)} {j = length text} (length-take-le i text) in
    omega (arith, small, top)

-- at most eighteen digits spell a small number, and so does each part of them
pub value-more : (text : List ℕ) (i : ℕ) → length text ≤ 18 → are_digits 10 text ≡ true → i < length text
    → (digits_value 10 (take (i + 1) text) ≡ digits_value 10 (take i text) * 10 + digit_value (get_or text i 0)) × (digits_value 10 (take i text) * 10 + digit_value (get_or text i 0) < 1000000000000000000)
value-more text i few digits lt =
    let more = digits_value_more 10 text i lt in
    let small = value-small (take (i + 1) text) (are_digits-take (i + 1) text digits) in
    let top : 10 ^ length (take (i + 1) text) ≤ 1000000000000000000 = ten_to (length (take (i + 1) text)) (omega (arith, length-take-le (i + 1) text)) in
    (more, rw (← more) (omega (arith, small, top)))

-- digits in front of others
pub joined-small : (a b n m : ℕ) → a + b ≤ 18 → n < 10 ^ a → m < 10 ^ b → n * 10 ^ b + m < 1000000000000000000
joined-small a b n m few front back =
    let most : suc n * 10 ^ b ≤ 10 ^ a * 10 ^ b = mul-le-mul_right (10 ^ b) front in
    let top : 10 ^ (a + b) ≤ 1000000000000000000 = ten_to (a + b) few in
    let same : 10 ^ (a + b) ≡ 10 ^ a * 10 ^ b = pow-add 10 a b in
    omega (arith, most, top, same, back)

-- what is asked of the digits of a decimal
pub decimal_parts : (whole behind : List ℕ) → are_those_of_decimal whole behind ≡ true
    → (length whole + length behind ≤ 18) × ((are_digits 10 whole ≡ true) × (are_digits 10 behind ≡ true))
decimal_parts whole behind is =
    let some = nat_le 1 (length whole) in
    let most = nat_le (length whole) 18 in
    let left = nat_le (length behind) (18 - length whole) in
    let all = and_parts (some && most && left && are_digits 10 whole) (are_digits 10 behind) is in
    let four = and_parts (some && most && left) (are_digits 10 whole) all.0 in
    let three = and_parts (some && most) left four.0 in
    let two = and_parts some most three.0 in
    let a : nat_le (length behind) (18 - length whole) ≡ true = three.1 in
    let b : nat_le (length whole) 18 ≡ true = two.1 in
    (grind (arith, nat_tests), (four.1, all.1))
