-- Sums, products and comparisons of signed numbers.
use Rattle.std.proofs.Common.{◌≡◌, ℕ, zero, suc, ◌+◌, ◌-◌, ◌*◌, ◌/◌, ◌%◌, ◌^◌, ◌<◌, ◌≤◌, Bool, true, false, refl, sym, ap, ◌∙◌, arith}
use Rattle.std.proofs.lemmas.Bool.Decides.{nat_tests}
use Rattle.std.specs.Prelude.{ℤ, pos, neg_ℤ, ◌+ℤ◌, ◌*ℤ◌, ◌==◌, ◌&&◌, ◌≤ℤ◌, ◌<ℤ◌, not, nat_lt, int_le}
use Rattle.std.proofs.lemmas.Int.{ints}
use Rattle.std.proofs.Math.Nat.{add-mul, div-add-mod, mod-lt, mul-lt-mul_of_pos_right, mul-zero, mul_assoc, mul_comm, pow-le-pow_right, zero-mul}
use Rattle.std.proofs.Math.Pow.{pow-add}
use Rattle.signal_values.specs.Amounts.{are_within, product_sign, signed, unit}

pub sum-same : (n : Bool) (a b d : ℕ) → d ≡ a + b → signed n d ≡ signed n a +ℤ signed n b
sum-same false a b d is = omega (arith, ints)
sum-same true a b d is = omega (arith, ints)

-- what is left is of the sign of the greater
pub rest-right : (n m : Bool) (a b d : ℕ) → (n ≡ m → ⊥) → d + a ≡ b → signed m d ≡ signed n a +ℤ signed m b
rest-right false false a b d other is = absurd (other refl)
rest-right false true a b d other is = omega (arith, ints)
rest-right true false a b d other is = omega (arith, ints)
rest-right true true a b d other is = absurd (other refl)

pub rest-left : (n m : Bool) (a b d : ℕ) → (n ≡ m → ⊥) → d + b ≡ a → signed n d ≡ signed n a +ℤ signed m b
rest-left false false a b d other is = absurd (other refl)
rest-left false true a b d other is = omega (arith, ints)
rest-left true false a b d other is = omega (arith, ints)
rest-left true true a b d other is = absurd (other refl)

-- ten to a power of at most seventeen, and what is left to seventeen places
pub ten_most : (k : ℕ) → k ≤ 17 → 10 ^ k ≤ unit
ten_most k few = pow-le-pow_right {n = 10} (omega arith) {i = k} {j = 17} few

pub ten_some : (k : ℕ) → 1 ≤ 10 ^ k
ten_some k = pow-le-pow_right {n = 10} (omega arith) {i = 0} {j = k} (omega arith)

pub tens : (k : ℕ) → k ≤ 17 → 10 ^ k * 10 ^ (17 - k) ≡ unit
tens k few = let whole : k + (17 - k) ≡ 17 = omega arith in sym (pow-add 10 k (17 - k)) ∙ ap (λ (n : ℕ). 10 ^ n) whole

-- a number of parts as wholes and what is left of one
pub parted : (m u v : ℕ) → 0 < u → u * v ≡ unit → m / u * unit + m % u * v ≡ m * v
parted m u v some is =
    let whole : u * (m / u) + m % u ≡ m = div-add-mod m u in
    let turned : u * (m / u) * v ≡ m / u * unit = ap (λ (n : ℕ). n * v) (mul_comm u (m / u)) ∙ (mul_assoc (m / u) u v ∙ ap (λ (n : ℕ). m / u * n) is) in
    sym (ap (λ (n : ℕ). n * v) (sym whole) ∙ (add-mul (u * (m / u)) (m % u) v ∙ ap (λ (n : ℕ). n + m % u * v) turned))

pub part_below : (m u v : ℕ) → 0 < u → 0 < v → u * v ≡ unit → m % u * v < unit
part_below m u v some more is =
    let below : m % u * v < u * v = mul-lt-mul_of_pos_right (mod-lt m some) more in omega (arith, below, is)

-- a number of parts in units of 10^-17
pub shifted_below : (m k : ℕ) → k ≤ 17 → m % 10 ^ k * 10 ^ (17 - k) < unit
shifted_below m k few = part_below m (10 ^ k) (10 ^ (17 - k)) (ten_some k) (ten_some (17 - k)) (tens k few)

pub shifted_size : (m k : ℕ) → k ≤ 17 → m / 10 ^ k * unit + m % 10 ^ k * 10 ^ (17 - k) ≡ m * 10 ^ (17 - k)
shifted_size m k few = parted m (10 ^ k) (10 ^ (17 - k)) (ten_some k) (tens k few)

-- the product of two numbers by their signs
minus_nought : (n : ℕ) → n ≡ 0 → neg_ℤ (pos n) ≡ pos 0
minus_nought n is = ap (λ (k : ℕ). neg_ℤ (pos k)) is

nought : (n : ℕ) → n ≡ 0 → pos n ≡ pos 0
nought n is = ap pos is

pub product : (n m : Bool) (a b : ℕ) → signed (product_sign n m) (a * b) ≡ signed n a *ℤ signed m b
product false false a b = refl
product false true a zero = minus_nought (a * 0) (mul-zero a) ∙ sym (nought (a * 0) (mul-zero a))
product false true a (suc b) = refl
product true false zero b = minus_nought (0 * b) (zero-mul b) ∙ sym (nought (0 * b) (zero-mul b))
product true false (suc a) b = refl
product true true zero zero = refl
product true true zero (suc b) = nought (0 * suc b) (zero-mul (suc b)) ∙ sym (minus_nought (0 * suc b) (zero-mul (suc b)))
product true true (suc a) zero = nought (suc a * 0) (mul-zero (suc a)) ∙ sym (minus_nought (suc a * 0) (mul-zero (suc a)))
product true true (suc a) (suc b) = refl

-- the product of a number and a decimal of k places
pub product_shifted : (n m : Bool) (a d t : ℕ) → signed (product_sign n m) (a * d * t) ≡ signed n a *ℤ signed m (d * t)
product_shifted n m a d t = ap (λ (k : ℕ). signed (product_sign n m) k) (mul_assoc a d t) ∙ product n m a (d * t)

-- whether numbers differ by at most so much
int_le_yes : (x y : ℤ) → x ≤ℤ y → int_le x y ≡ true
int_le_yes x y is = grind (arith, ints)

int_le_no : (x y : ℤ) → y <ℤ x → int_le x y ≡ false
int_le_no x y is = grind (arith, ints)

and_swap : (x y : Bool) → (x && y) ≡ (y && x)
and_swap true true = refl
and_swap true false = refl
and_swap false true = refl
and_swap false false = refl

within-swap : (most one other : ℤ) → are_within most one other ≡ are_within most other one
within-swap most one other = and_swap (int_le one (other +ℤ most)) (int_le other (one +ℤ most))

within-yes : (most one other : ℤ) → one ≤ℤ (other +ℤ most) → other ≤ℤ (one +ℤ most) → true ≡ are_within most one other
within-yes most one other a b = rw (int_le_yes one (other +ℤ most) a, int_le_yes other (one +ℤ most) b) refl

within-no : (most one other : ℤ) → (other +ℤ most) <ℤ one → false ≡ are_within most one other
within-no most one other above = rw (int_le_no one (other +ℤ most) above) refl

not-below : (k : Bool) (m : ℕ) → (k && not (m == 0)) ≡ false → signed k m ≡ pos m
not-below false m is = refl
not-below true m is = go (m == 0) refl
  where
    go : (b : Bool) → (m == 0) ≡ b → signed true m ≡ pos m
    go true nothing = let none : m ≡ 0 = grind (arith, nat_tests) in minus_nought m none ∙ sym (nought m none)
    go false something = let lost : true ≡ false = rw something at is in cc

differ-above : (n : Bool) (a b d m : ℕ) (t : Bool) → nat_lt m d ≡ t → d + a ≡ b → not t ≡ are_within (pos m) (signed n a) (signed n b)
differ-above false a b d m true is gap =
    let many : m < d = grind (arith, nat_tests) in within-no (pos m) (pos b) (pos a) (omega (arith, ints)) ∙ within-swap (pos m) (pos b) (pos a)
differ-above false a b d m false is gap =
    let few : d ≤ m = grind (arith, nat_tests) in within-yes (pos m) (pos a) (pos b) (omega (arith, ints)) (omega (arith, ints))
differ-above true a b d m true is gap =
    let many : m < d = grind (arith, nat_tests) in within-no (pos m) (neg_ℤ (pos a)) (neg_ℤ (pos b)) (omega (arith, ints))
differ-above true a b d m false is gap =
    let few : d ≤ m = grind (arith, nat_tests) in
    within-yes (pos m) (neg_ℤ (pos a)) (neg_ℤ (pos b)) (omega (arith, ints)) (omega (arith, ints))

-- two numbers of one sign that are so far apart, the second the greater one without its sign, or the first
pub differ-second : (n k : Bool) (a b d m : ℕ) → (k && not (m == 0)) ≡ false → d + a ≡ b → not (nat_lt m d) ≡ are_within (signed k m) (signed n a) (signed n b)
differ-second n k a b d m some gap =
    differ-above n a b d m (nat_lt m d) refl gap ∙ ap (λ (most : ℤ). are_within most (signed n a) (signed n b)) (sym (not-below k m some))

pub differ-first : (n k : Bool) (a b d m : ℕ) → (k && not (m == 0)) ≡ false → d + b ≡ a → not (nat_lt m d) ≡ are_within (signed k m) (signed n a) (signed n b)
differ-first n k a b d m some gap = differ-second n k b a d m some gap ∙ within-swap (signed k m) (signed n b) (signed n a)
