-- The numbers that digits spell.
use Rattle.std.proofs.Common.{◌≡◌, ℕ, List, zero, suc, ◌+◌, ◌*◌, ◌^◌, ◌<◌, ◌≤◌, [], ◌∷◌, length, take, refl, sym, arith, get_or, zero-le}
use Rattle.std.proofs.lemmas.Bool.Decides.{nat_tests}
use Rattle.std.proofs.lemmas.Int.Digits.{digits_value_more}
use Rattle.std.proofs.Math.Nat.{mul-le-mul_left, mul-le-mul_right, pow-succ', mul_assoc, pow-le-pow_right}
use Rattle.std.specs.Prelude.{Bool, true, false, ◌&&◌, nat_lt}
use Rattle.std.specs.Char.{digit_value}
use Rattle.std.specs.Str.Parse.{digits_value, digits_value_after}
use Rattle.numerals.specs.Numerals.{are_digits}

pub and_right : (a b : Bool) → (a && b) ≡ true → b ≡ true
and_right true b h = h
and_right false b h = cc

pub and_left : (a b : Bool) → (a && b) ≡ true → a ≡ true
and_left true b h = refl
and_left false b h = cc

-- one more digit is less than one more place
one_digit : (base n d k : ℕ) → base ≤ 16 → d < base → n < k → n * base + d < k * 16
one_digit base n d k le lt below = omega (arith, mul-le-mul_left n le, mul-le-mul_right 16 below)

places : (k n : ℕ) → k * 16 ^ suc n ≡ k * 16 * 16 ^ n
places k n = rw pow-succ' (sym (mul_assoc k 16 (16 ^ n)))

value-lt : (base n k : ℕ) (word : List ℕ) → base ≤ 16 → are_digits base word ≡ true → n < k → digits_value_after base n word < k * 16 ^ length word
value-lt base n k [] le digits below = omega arith
value-lt base n k (b ∷ word) le digits below =
    let lt : digit_value b < base = grind (arith, nat_tests, and_left (nat_lt (digit_value b) base) (are_digits base word) digits) in
    let rest = value-lt base (n * base + digit_value b) (k * 16) word le (and_right (nat_lt (digit_value b) base) (are_digits base word) digits) (one_digit base n (digit_value b) k le lt below) in
    rw (places k (length word)) rest

are_digits-take : (base i : ℕ) (word : List ℕ) → are_digits base word ≡ true → are_digits base (take i word) ≡ true
are_digits-take base zero word digits = refl
are_digits-take base (suc i) [] digits = refl
are_digits-take base (suc i) (b ∷ word) digits =
    rw (and_left (nat_lt (digit_value b) base) (are_digits base word) digits) (are_digits-take base i word (and_right (nat_lt (digit_value b) base) (are_digits base word) digits))

length-take-le : (n : ℕ) (word : List ℕ) → length (take n word) ≤ length word
length-take-le zero word = zero-le
length-take-le (suc n) [] = zero-le
length-take-le (suc n) (b ∷ word) = omega (arith, length-take-le n word)

-- digits spell a number below as many places
pub value-below : (base most : ℕ) (word : List ℕ) → base ≤ 16 → length word ≤ most → are_digits base word ≡ true → digits_value base word < 16 ^ most
value-below base most word le few digits =
    let small = value-lt base 0 1 word le digits (omega arith) in
    let top : 16 ^ length word ≤ 16 ^ most = pow-le-pow_right (omega arith) few in
    omega (arith, small, top)

-- a word of at most fifteen digits spells a small number, and so does each part of it
pub value-more : (base : ℕ) (word : List ℕ) (i : ℕ) → base ≤ 16 → length word ≤ 15 → are_digits base word ≡ true → i < length word
    → (digits_value base (take (i + 1) word) ≡ digits_value base (take i word) * base + digit_value (get_or word i 0)) × (digits_value base (take i word) * base + digit_value (get_or word i 0) < 1152921504606846976)
value-more base word i le few digits lt =
    let more = digits_value_more base word i lt in
    let small = value-below base 15 (take (i + 1) word) le (omega (arith, length-take-le (i + 1) word)) (are_digits-take base (i + 1) word digits) in
    (more, rw (← more) (omega (arith, small)))
