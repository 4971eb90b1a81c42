-- Decimal digits, each in a byte of a number.
use Rattle.std.proofs.Common.{◌≡◌, ℕ, zero, suc, ◌+◌, ◌-◌, ◌*◌, ◌/◌, ◌%◌, ◌^◌, ◌<◌, ◌≤◌, List, [], ◌∷◌, ◌++◌, length, take, drop, replicate, refl, sym, ap, ◌∙◌, ◌⊎◌, inl, inr, arith, append_assoc, length-append}
use Rattle.std.specs.Prelude.{decimal}
use Rattle.std.specs.Int.{bytes_low_first, byte_at}
use Rattle.std.proofs.lemmas.Bool.{cases_lt}
use Rattle.std.proofs.lemmas.Fmt.{decimal_digit, decimal_step}
use Rattle.std.proofs.lemmas.List.{length-replicate}
use Rattle.std.proofs.Math.Nat.{pow-suc}
use lib.Bits.{bit_and, and_block, and_mask}
use lib.Count.{count_trailing_zeros}
use Rattle.signal_values.specs.Texts.{digits_of}
use Rattle.bench_decode.specs.Digits.{IsLedBy, ones, packed}

-- two halves, and the last seven bits of each
and_halves : (a b : ℕ) → b < 4294967296 → bit_and (a * 4294967296 + b) 545460846719 ≡ a % 128 * 4294967296 + b % 128
and_halves a b small = and_block 32 a 127 b 127 small (omega arith) ∙ ap (λ (n : ℕ). n * 4294967296 + bit_and b 127) (and_mask a 7) ∙ ap (λ (n : ℕ). a % 128 * 4294967296 + n) (and_mask b 7)

-- four quarters, and the last four bits of each
and_quarters : (a b c d : ℕ) → b < 65536 → c < 65536 → d < 65536
    → bit_and (((a * 65536 + b) * 65536 + c) * 65536 + d) 4222189076152335 ≡ ((a % 16 * 65536 + b % 16) * 65536 + c % 16) * 65536 + d % 16
and_quarters a b c d hb hc hd =
    and_block 16 ((a * 65536 + b) * 65536 + c) 64425492495 d 15 hd (omega arith)
    ∙ ap (λ (n : ℕ). n * 65536 + bit_and d 15) (and_block 16 (a * 65536 + b) 983055 c 15 hc (omega arith) ∙ ap (λ (n : ℕ). n * 65536 + bit_and c 15) (and_block 16 a 15 b 15 hb (omega arith) ∙ ap (λ (n : ℕ). n * 65536 + bit_and b 15) (and_mask a 4) ∙ ap (λ (n : ℕ). a % 16 * 65536 + n) (and_mask b 4)) ∙ ap (λ (n : ℕ). (a % 16 * 65536 + b % 16) * 65536 + n) (and_mask c 4))
    ∙ ap (λ (n : ℕ). ((a % 16 * 65536 + b % 16) * 65536 + c % 16) * 65536 + n) (and_mask d 4)

hundredth : (n : ℕ) → n < 10000 → n * 10486 / 1048576 ≡ n / 100
hundredth n small = omega arith

tenth : (n : ℕ) → n < 100 → n * 103 / 1024 ≡ n / 10
tenth n small = omega arith

-- two numbers below 10,000, divided by 100 side by side
pub hundreds_is : (a b : ℕ) → a < 10000 → b < 10000 → bit_and ((a + b * 4294967296) * 10486 / 1048576) 545460846719 ≡ a / 100 + b / 100 * 4294967296
hundreds_is a b ha hb =
    let split : (a + b * 4294967296) * 10486 / 1048576 ≡ b * 10486 / 1048576 * 4294967296 + (b * 10486 % 1048576 * 4096 + a * 10486 / 1048576) = omega arith in
    let top : b * 10486 / 1048576 % 128 ≡ b / 100 = omega (arith, hundredth b hb) in
    let last : (b * 10486 % 1048576 * 4096 + a * 10486 / 1048576) % 128 ≡ a / 100 = omega (arith, hundredth a ha) in
    rw (split, and_halves (b * 10486 / 1048576) (b * 10486 % 1048576 * 4096 + a * 10486 / 1048576) (omega (arith, hundredth a ha)), top, last) (omega arith)

-- four numbers below 100, divided by 10 side by side
pub tens_is : (p q r s : ℕ) → p < 100 → q < 100 → r < 100 → s < 100
    → bit_and ((p + q * 65536 + r * 4294967296 + s * 281474976710656) * 103 / 1024) 4222189076152335 ≡ p / 10 + q / 10 * 65536 + r / 10 * 4294967296 + s / 10 * 281474976710656
tens_is p q r s hp hq hr hs =
    let split : (p + q * 65536 + r * 4294967296 + s * 281474976710656) * 103 / 1024 ≡ ((s * 103 / 1024 * 65536 + (s * 103 % 1024 * 64 + r * 103 / 1024)) * 65536 + (r * 103 % 1024 * 64 + q * 103 / 1024)) * 65536 + (q * 103 % 1024 * 64 + p * 103 / 1024) = omega arith in
    let az : s * 103 / 1024 % 16 ≡ s / 10 = omega (arith, tenth s hs) in
    let bs : (s * 103 % 1024 * 64 + r * 103 / 1024) % 16 ≡ r / 10 = omega (arith, tenth r hr) in
    let cs : (r * 103 % 1024 * 64 + q * 103 / 1024) % 16 ≡ q / 10 = omega (arith, tenth q hq) in
    let ds : (q * 103 % 1024 * 64 + p * 103 / 1024) % 16 ≡ p / 10 = omega (arith, tenth p hp) in
    rw (split, and_quarters (s * 103 / 1024) (s * 103 % 1024 * 64 + r * 103 / 1024) (r * 103 % 1024 * 64 + q * 103 / 1024) (q * 103 % 1024 * 64 + p * 103 / 1024) (omega (arith, tenth r hr)) (omega (arith, tenth q hq)) (omega (arith, tenth p hp)), az, bs, cs, ds) (omega arith)

-- two digits more
digits_two : (k n : ℕ) → digits_of (suc (suc k)) n ≡ digits_of k (n / 100) ++ (48 + n % 100 / 10) ∷ (48 + n % 100 % 10) ∷ []
unfolding digits_of
digits_two k n =
    let a : n / 10 / 10 ≡ n / 100 = omega arith in
    let b : n / 10 % 10 ≡ n % 100 / 10 = omega arith in
    let c : n % 10 ≡ n % 100 % 10 = omega arith in
    rw (a, b, c, append_assoc) refl

abbrev pair_of : ℕ → List ℕ
pair_of n = (48 + n / 10) ∷ (48 + n % 10) ∷ []

digits_none : (n : ℕ) → digits_of 0 n ≡ []
unfolding digits_of
digits_none n = refl

digits_pairs : (n : ℕ) → n < 100000000 → digits_of 8 n ≡ pair_of (n / 1000000) ++ (pair_of (n / 10000 % 100) ++ (pair_of (n / 100 % 100) ++ pair_of (n % 100)))
digits_pairs n small =
    let a : n / 100 / 100 / 100 % 100 ≡ n / 1000000 = omega arith in
    let b : n / 100 / 100 % 100 ≡ n / 10000 % 100 = omega arith in
    rw (digits_two 6 n, digits_two 4 (n / 100), digits_two 2 (n / 100 / 100), digits_two 0 (n / 100 / 100 / 100), digits_none, a, b) refl

-- the digits in pairs, with the first one of each pair lower, as a number of bytes
pub eight_is : (n r : ℕ) → n < 100000000
    → r ≡ n / 1000000 / 10 + n / 1000000 % 10 * 256 + (n / 10000 % 100 / 10 + n / 10000 % 100 % 10 * 256) * 65536 + (n / 100 % 100 / 10 + n / 100 % 100 % 10 * 256) * 4294967296 + (n % 100 / 10 + n % 100 % 10 * 256) * 281474976710656
    → r + 3472328296227680304 ≡ packed (digits_of 8 n)
unfolding packed
eight_is n r small is =
    let text : r + 3472328296227680304 ≡ packed (pair_of (n / 1000000) ++ (pair_of (n / 10000 % 100) ++ (pair_of (n / 100 % 100) ++ pair_of (n % 100)))) = omega (arith, is) in
    text ∙ ap packed (sym (digits_pairs n small))

-- ---- noughts in front

pow_step : (k : ℕ) → 10 ^ suc k ≡ 10 * 10 ^ k
pow_step k = omega (arith, pow-suc 10 k)

one_le : (k : ℕ) → 1 ≤ 10 ^ k
one_le zero = omega arith
one_le (suc k) = omega (arith, pow_step k, one_le k)

last : (k n : ℕ) → digits_of (suc k) n ≡ digits_of k (n / 10) ++ (48 + n % 10) ∷ []
unfolding digits_of
last k n = refl

lead_one : (k n : ℕ) → n < 10 ^ k → digits_of (suc k) n ≡ 48 ∷ digits_of k n
lead_one zero n small =
    let none : n % 10 ≡ 0 = omega arith in
    last 0 n ∙ ap (λ (l : List ℕ). l ++ (48 + n % 10) ∷ []) (digits_none (n / 10)) ∙ ap (λ (d : ℕ). (48 + d) ∷ []) none ∙ ap (λ (l : List ℕ). 48 ∷ l) (sym (digits_none n))
lead_one (suc k) n small =
    let less : n / 10 < 10 ^ k = omega (arith, pow_step k) in
    last (suc k) n ∙ ap (λ (l : List ℕ). l ++ (48 + n % 10) ∷ []) (lead_one k (n / 10) less) ∙ ap (λ (l : List ℕ). 48 ∷ l) (sym (last k n))

below_more : (z k n : ℕ) → n < 10 ^ k → n < 10 ^ (z + k)
below_more zero k n small = let e : 0 + k ≡ k = omega arith in rw e small
below_more (suc z) k n small = let e : suc z + k ≡ suc (z + k) = omega arith in rw e (omega (arith, pow_step (z + k), below_more z k n small))

lead_more : (z k n : ℕ) → n < 10 ^ k → digits_of (z + k) n ≡ replicate z 48 ++ digits_of k n
lead_more zero k n small = let e : 0 + k ≡ k = omega arith in rw e refl
lead_more (suc z) k n small =
    let e : suc z + k ≡ suc (z + k) = omega arith in
    ap (λ (j : ℕ). digits_of j n) e ∙ lead_one (z + k) n (below_more z k n small) ∙ ap (λ (l : List ℕ). 48 ∷ l) (lead_more z k n small)

-- a number is its digits
decimal_is : (k n : ℕ) → n < 10 ^ suc k → (k ≡ 0) ⊎ (10 ^ k ≤ n) → n < 2 ^ 64 → decimal n ≡ digits_of (suc k) n
decimal_is zero n small some fits =
    let one : n < 10 = omega (arith, pow_step 0) in
    let same : n % 10 ≡ n = omega arith in
    decimal_digit n one ∙ sym (last 0 n ∙ ap (λ (l : List ℕ). l ++ (48 + n % 10) ∷ []) (digits_none (n / 10)) ∙ ap (λ (d : ℕ). (48 + d) ∷ []) same)
decimal_is (suc k) n small (inl none) fits = absurd (omega arith)
decimal_is (suc k) n small (inr some) fits =
    let ten : 10 ≤ n = omega (arith, pow_step k, one_le k) in
    let front = decimal_is k (n / 10) (omega (arith, pow_step (suc k))) (inr (omega (arith, pow_step k))) (omega arith) in
    decimal_step n ten fits ∙ ap (λ (l : List ℕ). l ++ (48 + n % 10) ∷ []) front ∙ sym (last (suc k) n)

pub length_digits : (k n : ℕ) → length (digits_of k n) ≡ k
length_digits zero n = ap length (digits_none n)
length_digits (suc k) n = omega (arith, ap length (last k n), length-append (digits_of k (n / 10)) ((48 + n % 10) ∷ []), length_digits k (n / 10))

-- the first digit of a number is not 0
record IsFirst (k n : ℕ) : Type 0 where
  first : ℕ
  others : List ℕ
  is : digits_of (suc k) n ≡ first ∷ others
  low : 49 ≤ first
  high : first ≤ 57

first_is : (k n : ℕ) → 10 ^ k ≤ n → n < 10 ^ suc k → IsFirst k n
first_is zero n some small = record {
  first = 48 + n % 10;
  others = [];
  is = last 0 n ∙ ap (λ (l : List ℕ). l ++ (48 + n % 10) ∷ []) (digits_none (n / 10));
  low = omega (arith, pow_step 0);
  high = omega arith;
}
first_is (suc k) n some small =
    let f = first_is k (n / 10) (omega (arith, pow_step k)) (omega (arith, pow_step (suc k))) in
    record {
      first = f.first;
      others = f.others ++ (48 + n % 10) ∷ [];
      is = last (suc k) n ∙ ap (λ (l : List ℕ). l ++ (48 + n % 10) ∷ []) f.is;
      low = f.low;
      high = f.high;
    }

-- ---- trailing zeros

even_step : (k n : ℕ) → n % 2 ≡ 0 → count_trailing_zeros (suc k) n ≡ suc (count_trailing_zeros k (n / 2))
unfolding count_trailing_zeros
even_step k n even = rw even refl

odd_step : (k n : ℕ) → n % 2 ≡ 1 → count_trailing_zeros (suc k) n ≡ 0
unfolding count_trailing_zeros
odd_step k n odd = rw odd refl

four_steps : (k n : ℕ) → n % 16 ≡ 0 → count_trailing_zeros (suc (suc (suc (suc k)))) n ≡ suc (suc (suc (suc (count_trailing_zeros k (n / 16)))))
four_steps k n even =
    let e : n / 2 / 2 / 2 / 2 ≡ n / 16 = omega arith in
    even_step (suc (suc (suc k))) n (omega arith) ∙ ap suc (even_step (suc (suc k)) (n / 2) (omega arith) ∙ ap suc (even_step (suc k) (n / 2 / 2) (omega arith) ∙ ap suc (even_step k (n / 2 / 2 / 2) (omega arith) ∙ ap (λ (m : ℕ). suc (count_trailing_zeros k m)) e)))

byte_step : (k n : ℕ) → n % 256 ≡ 0 → count_trailing_zeros (8 + k) n ≡ 8 + count_trailing_zeros k (n / 256)
byte_step k n even =
    let e : 8 + k ≡ suc (suc (suc (suc (suc (suc (suc (suc k))))))) = omega arith in
    let d : n / 16 / 16 ≡ n / 256 = omega arith in
    let first : n % 16 ≡ 0 = omega arith in
    let second : n / 16 % 16 ≡ 0 = omega arith in
    let steps : count_trailing_zeros (8 + k) n ≡ count_trailing_zeros (suc (suc (suc (suc (suc (suc (suc (suc k)))))))) n = ap (λ (j : ℕ). count_trailing_zeros j n) e in
    let rest : count_trailing_zeros k (n / 16 / 16) ≡ count_trailing_zeros k (n / 256) = ap (λ (m : ℕ). count_trailing_zeros k m) d in
    omega (arith, steps, four_steps (suc (suc (suc (suc k)))) n first, four_steps k (n / 16) second, rest)

-- of a number whose last bits are not all 0
low_one : (k m : ℕ) → m % 2 ≡ 1 → count_trailing_zeros (suc k) m ≤ 0
low_one k m odd = omega (arith, odd_step k m odd)

low_two : (k m : ℕ) → 0 < m % 4 → count_trailing_zeros (suc (suc k)) m ≤ 1
low_two k m some = elim (cases_lt (m % 2) 1) [
  | inl even ↦ let z : m % 2 ≡ 0 = omega arith in let o : m / 2 % 2 ≡ 1 = omega arith in omega (arith, even_step (suc k) m z, low_one k (m / 2) o)
  | inr odd ↦ let o : m % 2 ≡ 1 = omega arith in omega (arith, odd_step (suc k) m o)
]

low_three : (k m : ℕ) → 0 < m % 8 → count_trailing_zeros (suc (suc (suc k))) m ≤ 2
low_three k m some = elim (cases_lt (m % 2) 1) [
  | inl even ↦ let z : m % 2 ≡ 0 = omega arith in let o : 0 < m / 2 % 4 = omega arith in omega (arith, even_step (suc (suc k)) m z, low_two k (m / 2) o)
  | inr odd ↦ let o : m % 2 ≡ 1 = omega arith in omega (arith, odd_step (suc (suc k)) m o)
]

low_four : (k m : ℕ) → 0 < m % 16 → count_trailing_zeros (suc (suc (suc (suc k)))) m ≤ 3
low_four k m some = elim (cases_lt (m % 2) 1) [
  | inl even ↦ let z : m % 2 ≡ 0 = omega arith in let o : 0 < m / 2 % 8 = omega arith in omega (arith, even_step (suc (suc (suc k))) m z, low_three k (m / 2) o)
  | inr odd ↦ let o : m % 2 ≡ 1 = omega arith in omega (arith, odd_step (suc (suc (suc k))) m o)
]

-- so many bytes of zeros below a number whose last four bits are not all 0
abbrev shifted : ℕ → ℕ → ℕ
shifted zero m = m
shifted (suc z) m = 256 * shifted z m

tz_is : (z k n m : ℕ) → n ≡ shifted z m → 0 < m % 16 → count_trailing_zeros (z * 8 + suc (suc (suc (suc k)))) n / 8 ≡ z
tz_is zero k n m is some =
    let e : 0 * 8 + suc (suc (suc (suc k))) ≡ suc (suc (suc (suc k))) = omega arith in
    rw (e, is) (omega (arith, low_four k m some))
tz_is (suc z) k n m is some =
    let e : suc z * 8 + suc (suc (suc (suc k))) ≡ 8 + (z * 8 + suc (suc (suc (suc k)))) = omega arith in
    let none : n % 256 ≡ 0 = omega (arith, is) in
    let rest : n / 256 ≡ shifted z m = omega (arith, is) in
    rw e (omega (arith, byte_step (z * 8 + suc (suc (suc (suc k)))) n none, tz_is z k (n / 256) m rest some))

-- the same of the digits of a number, and the eighth of them not 0
record IsTrailed (x z : ℕ) : Type 0 where
  rest : ℕ
  is : x + 72057594037927936 ≡ shifted z rest
  some : 0 < rest % 16

trailed_by : (x z : ℕ) → z ≤ 7 → IsTrailed x z → count_trailing_zeros 64 (x + 72057594037927936) / 8 ≡ z
trailed_by x z few t =
    let e : z * 8 + suc (suc (suc (suc (60 - z * 8)))) ≡ 64 = omega arith in
    rw e at (tz_is z (60 - z * 8) (x + 72057594037927936) t.rest t.is t.some)

-- digits behind noughts
lead : (n z k : ℕ) → z + k ≡ 8 → n < 10 ^ k → digits_of 8 n ≡ replicate z 48 ++ digits_of k n
lead n z k all small = ap (λ (j : ℕ). digits_of j n) (sym all) ∙ lead_more z k n small

trailed_0 : (x first others : ℕ) → x + 3472328296227680304 ≡ first + 256 * others → 49 ≤ first → first ≤ 57 → IsTrailed x 0
trailed_0 x first others is low high = record { rest = x + 72057594037927936; is = omega arith; some = omega arith }

trailed_1 : (x first others : ℕ) → x + 3472328296227680304 ≡ 48 + 256 * (first + 256 * others) → 49 ≤ first → first ≤ 57 → IsTrailed x 1
trailed_1 x first others is low high = record { rest = (x + 72057594037927936) / 256; is = omega arith; some = omega arith }

trailed_2 : (x first others : ℕ) → x + 3472328296227680304 ≡ 48 + 256 * (48 + 256 * (first + 256 * others)) → 49 ≤ first → first ≤ 57 → IsTrailed x 2
trailed_2 x first others is low high = record { rest = (x + 72057594037927936) / 65536; is = omega arith; some = omega arith }

trailed_3 : (x first others : ℕ) → x + 3472328296227680304 ≡ 48 + 256 * (48 + 256 * (48 + 256 * (first + 256 * others))) → 49 ≤ first → first ≤ 57 → IsTrailed x 3
trailed_3 x first others is low high = record { rest = (x + 72057594037927936) / 16777216; is = omega arith; some = omega arith }

trailed_4 : (x first others : ℕ) → x + 3472328296227680304 ≡ 48 + 256 * (48 + 256 * (48 + 256 * (48 + 256 * (first + 256 * others)))) → 49 ≤ first → first ≤ 57 → IsTrailed x 4
trailed_4 x first others is low high = record { rest = (x + 72057594037927936) / 4294967296; is = omega arith; some = omega arith }

trailed_5 : (x first others : ℕ) → x + 3472328296227680304 ≡ 48 + 256 * (48 + 256 * (48 + 256 * (48 + 256 * (48 + 256 * (first + 256 * others))))) → 49 ≤ first → first ≤ 57 → IsTrailed x 5
trailed_5 x first others is low high = record { rest = (x + 72057594037927936) / 1099511627776; is = omega arith; some = omega arith }

trailed_6 : (x first others : ℕ) → x + 3472328296227680304 ≡ 48 + 256 * (48 + 256 * (48 + 256 * (48 + 256 * (48 + 256 * (48 + 256 * (first + 256 * others)))))) → 49 ≤ first → first ≤ 57 → IsTrailed x 6
trailed_6 x first others is low high = record { rest = (x + 72057594037927936) / 281474976710656; is = omega arith; some = omega arith }

trailed_7 : (x first others : ℕ) → x + 3472328296227680304 ≡ 48 + 256 * (48 + 256 * (48 + 256 * (48 + 256 * (48 + 256 * (48 + 256 * (48 + 256 * (first + 256 * others))))))) → 48 ≤ first → first ≤ 57 → others ≡ 0 → IsTrailed x 7
trailed_7 x first others is low high none = record { rest = (x + 72057594037927936) / 72057594037927936; is = omega arith; some = omega arith }

trailed : (x n z : ℕ) → x + 3472328296227680304 ≡ packed (digits_of 8 n) → IsLedBy n z → IsTrailed x z
unfolding packed
trailed x n zero is led =
    elim led.first [
      | inl other ↦ absurd (omega arith)
      | inr some ↦ let f = first_is 7 n some led.below in trailed_0 x f.first (packed f.others) (is ∙ ap packed (lead n 0 8 refl led.below ∙ ap (λ (l : List ℕ). replicate 0 48 ++ l) f.is)) f.low f.high
    ]
trailed x n (suc zero) is led =
    elim led.first [
      | inl other ↦ absurd (omega arith)
      | inr some ↦ let f = first_is 6 n some led.below in trailed_1 x f.first (packed f.others) (is ∙ ap packed (lead n 1 7 refl led.below ∙ ap (λ (l : List ℕ). replicate 1 48 ++ l) f.is)) f.low f.high
    ]
trailed x n (suc (suc zero)) is led =
    elim led.first [
      | inl other ↦ absurd (omega arith)
      | inr some ↦ let f = first_is 5 n some led.below in trailed_2 x f.first (packed f.others) (is ∙ ap packed (lead n 2 6 refl led.below ∙ ap (λ (l : List ℕ). replicate 2 48 ++ l) f.is)) f.low f.high
    ]
trailed x n (suc (suc (suc zero))) is led =
    elim led.first [
      | inl other ↦ absurd (omega arith)
      | inr some ↦ let f = first_is 4 n some led.below in trailed_3 x f.first (packed f.others) (is ∙ ap packed (lead n 3 5 refl led.below ∙ ap (λ (l : List ℕ). replicate 3 48 ++ l) f.is)) f.low f.high
    ]
trailed x n (suc (suc (suc (suc zero)))) is led =
    elim led.first [
      | inl other ↦ absurd (omega arith)
      | inr some ↦ let f = first_is 3 n some led.below in trailed_4 x f.first (packed f.others) (is ∙ ap packed (lead n 4 4 refl led.below ∙ ap (λ (l : List ℕ). replicate 4 48 ++ l) f.is)) f.low f.high
    ]
trailed x n (suc (suc (suc (suc (suc zero))))) is led =
    elim led.first [
      | inl other ↦ absurd (omega arith)
      | inr some ↦ let f = first_is 2 n some led.below in trailed_5 x f.first (packed f.others) (is ∙ ap packed (lead n 5 3 refl led.below ∙ ap (λ (l : List ℕ). replicate 5 48 ++ l) f.is)) f.low f.high
    ]
trailed x n (suc (suc (suc (suc (suc (suc zero)))))) is led =
    elim led.first [
      | inl other ↦ absurd (omega arith)
      | inr some ↦ let f = first_is 1 n some led.below in trailed_6 x f.first (packed f.others) (is ∙ ap packed (lead n 6 2 refl led.below ∙ ap (λ (l : List ℕ). replicate 6 48 ++ l) f.is)) f.low f.high
    ]
trailed x n (suc (suc (suc (suc (suc (suc (suc zero))))))) is led =
    trailed_7 x (48 + n % 10) 0 (is ∙ ap packed (lead n 7 1 refl led.below ∙ ap (λ (l : List ℕ). replicate 7 48 ++ l) (last 0 n ∙ ap (λ (l : List ℕ). l ++ (48 + n % 10) ∷ []) (digits_none (n / 10))))) (omega arith) (omega arith) refl
trailed x n (suc (suc (suc (suc (suc (suc (suc (suc z)))))))) is led = absurd (omega (arith, led.few))

-- how many of the lowest bits are 0, and a bit more is set in the last byte
pub trailing : (x n z : ℕ) → x + 3472328296227680304 ≡ packed (digits_of 8 n) → IsLedBy n z → count_trailing_zeros 64 (x + 72057594037927936) / 8 ≡ z
trailing x n z is led = trailed_by x z led.few (trailed x n z is led)

-- ---- columns

-- spaces in place of noughts
packed_lower : (z : ℕ) (xs : List ℕ) → packed (replicate z 48 ++ xs) ≡ packed (replicate z 32 ++ xs) + 16 * ones z
unfolding packed ones
packed_lower zero xs = omega arith
packed_lower (suc z) xs = omega (arith, packed_lower z xs)

-- the bytes of a number, the lowest first
abbrev low_bytes : ℕ → ℕ → List ℕ
low_bytes zero n = []
low_bytes (suc k) n = n % 256 ∷ low_bytes k (n / 256)

low_is : (n : ℕ) → bytes_low_first 0 8 n ≡ low_bytes 8 n
low_is n =
    let b : n / 65536 % 256 ≡ n / 256 / 256 % 256 = omega arith in
    let c : n / 16777216 % 256 ≡ n / 256 / 256 / 256 % 256 = omega arith in
    let d : n / 4294967296 % 256 ≡ n / 256 / 256 / 256 / 256 % 256 = omega arith in
    let e : n / 1099511627776 % 256 ≡ n / 256 / 256 / 256 / 256 / 256 % 256 = omega arith in
    let f : n / 281474976710656 % 256 ≡ n / 256 / 256 / 256 / 256 / 256 / 256 % 256 = omega arith in
    let g : n / 72057594037927936 % 256 ≡ n / 256 / 256 / 256 / 256 / 256 / 256 / 256 % 256 = omega arith in
    rw (b, c, d, e, f, g) refl

abbrev AreBytes : List ℕ → Type 0
AreBytes [] = Unit {0}
AreBytes (x ∷ xs) = (x < 256) × AreBytes xs

bytes-append : (xs ys : List ℕ) → AreBytes xs → AreBytes ys → AreBytes (xs ++ ys)
bytes-append [] ys a b = b
bytes-append (x ∷ xs) ys a b = (a.0, bytes-append xs ys a.1 b)

bytes-spaces : (z : ℕ) → AreBytes (replicate z 32)
bytes-spaces zero = tt
bytes-spaces (suc z) = (omega arith, bytes-spaces z)

bytes-digits : (k n : ℕ) → AreBytes (digits_of k n)
bytes-digits zero n = rw (digits_none n) tt
bytes-digits (suc k) n = rw (last k n) (bytes-append (digits_of k (n / 10)) ((48 + n % 10) ∷ []) (bytes-digits k (n / 10)) (omega arith, tt))

packed_low : (x : ℕ) (xs : List ℕ) → x < 256 → (packed (x ∷ xs) % 256 ≡ x) × (packed (x ∷ xs) / 256 ≡ packed xs)
unfolding packed
packed_low x xs small = (omega arith, omega arith)

bytes_back : (k : ℕ) (xs : List ℕ) → AreBytes xs → length xs ≤ k → take (length xs) (low_bytes k (packed xs)) ≡ xs
bytes_back k [] bytes few = refl
bytes_back zero (x ∷ xs) bytes few = absurd (omega arith)
bytes_back (suc k) (x ∷ xs) bytes few =
    let p = packed_low x xs bytes.0 in
    rw (p.0, p.1) (ap (λ (l : List ℕ). x ∷ l) (bytes_back k xs bytes.1 (omega arith)))

-- the bytes behind those that are left out
cut : (l z : ℕ) (xs : List ℕ) → l ≤ 2 → packed (replicate (l + z) 32 ++ xs) / 2 ^ (l * 8) ≡ packed (replicate z 32 ++ xs)
cut zero z xs few = let e : 0 + z ≡ z = omega arith in rw e (omega arith)
cut (suc zero) z xs few = let e : 1 + z ≡ suc z = omega arith in rw e (packed_low 32 (replicate z 32 ++ xs) (omega arith)).1
cut (suc (suc zero)) z xs few =
    let e : 2 + z ≡ suc (suc z) = omega arith in
    let a = (packed_low 32 (replicate (suc z) 32 ++ xs) (omega arith)).1 in
    let b = (packed_low 32 (replicate z 32 ++ xs) (omega arith)).1 in
    rw e (omega (arith, a, b))
cut (suc (suc (suc l))) z xs few = absurd (omega arith)

-- a number at the end of its columns, of which the first ones are left out
pub columns_are : (n l z v : ℕ) → l ≤ 2 → l ≤ z → IsLedBy n z → v ≡ packed (replicate z 32 ++ digits_of (8 - z) n) → take (8 - l) (bytes_low_first 0 8 (v / 2 ^ (l * 8))) ≡ replicate (8 - l - length (decimal n)) 32 ++ decimal n
columns_are n l z v few within led is =
    let rest : l + (z - l) ≡ z = omega arith in
    let digits : suc (7 - z) ≡ 8 - z = omega (arith, led.few) in
    let below : n < 10 ^ suc (7 - z) = rw digits led.below in
    let fits : n < 2 ^ 64 = omega (arith, below_eight n z led.few led.below) in
    let text : decimal n ≡ digits_of (8 - z) n = decimal_is (7 - z) n below (some_digit n z led) fits ∙ ap (λ (k : ℕ). digits_of k n) digits in
    let columns : length (replicate (z - l) 32 ++ digits_of (8 - z) n) ≡ 8 - l = omega (arith, length-append (replicate (z - l) 32) (digits_of (8 - z) n), length-replicate {A = ℕ} (z - l) 32, length_digits (8 - z) n, led.few) in
    let left : 8 - l - length (decimal n) ≡ z - l = omega (arith, ap length text, length_digits (8 - z) n, led.few) in
    let number : v / 2 ^ (l * 8) ≡ packed (replicate (z - l) 32 ++ digits_of (8 - z) n) = ap (λ (m : ℕ). m / 2 ^ (l * 8)) (is ∙ ap (λ (j : ℕ). packed (replicate j 32 ++ digits_of (8 - z) n)) (sym rest)) ∙ cut l (z - l) (digits_of (8 - z) n) few in
    let back = bytes_back 8 (replicate (z - l) 32 ++ digits_of (8 - z) n) (bytes-append (replicate (z - l) 32) (digits_of (8 - z) n) (bytes-spaces (z - l)) (bytes-digits (8 - z) n)) (omega (arith, columns)) in
    ap (λ (m : ℕ). take (8 - l) (bytes_low_first 0 8 m)) number
    ∙ ap (λ (xs : List ℕ). take (8 - l) xs) (low_is (packed (replicate (z - l) 32 ++ digits_of (8 - z) n)))
    ∙ ap (λ (j : ℕ). take j (low_bytes 8 (packed (replicate (z - l) 32 ++ digits_of (8 - z) n)))) (sym columns)
    ∙ back
    ∙ ap (λ (j : ℕ). replicate j 32 ++ digits_of (8 - z) n) (sym left)
    ∙ ap (λ (xs : List ℕ). replicate (8 - l - length (decimal n)) 32 ++ xs) (sym text)
  where
    below_eight : (n z : ℕ) → z ≤ 7 → n < 10 ^ (8 - z) → n < 10 ^ 8
    below_eight n z few small = let e : z + (8 - z) ≡ 8 = omega arith in rw e at (below_more z (8 - z) n small)

    some_digit : (n z : ℕ) → IsLedBy n z → (7 - z ≡ 0) ⊎ (10 ^ (7 - z) ≤ n)
    some_digit n z led = elim led.first [
      | inl seven ↦ inl (omega arith)
      | inr some ↦ inr some
    ]

-- where a number's first digit stands
pub led_by : (n : ℕ) → n < 100000000 → (z : ℕ) × IsLedBy n z
led_by n small =
    elim (cases_lt n 10000000) [ inl less ↦ elim (cases_lt n 1000000) [ inl less ↦ elim (cases_lt n 100000) [ inl less ↦ elim (cases_lt n 10000) [ inl less ↦ elim (cases_lt n 1000) [ inl less ↦ elim (cases_lt n 100) [ inl less ↦ elim (cases_lt n 10) [ inl less ↦ (7, record { few = omega arith; below = omega arith; first = inl refl }) | inr more ↦ (6, record { few = omega arith; below = omega arith; first = inr more }) ] | inr more ↦ (5, record { few = omega arith; below = omega arith; first = inr more }) ] | inr more ↦ (4, record { few = omega arith; below = omega arith; first = inr more }) ] | inr more ↦ (3, record { few = omega arith; below = omega arith; first = inr more }) ] | inr more ↦ (2, record { few = omega arith; below = omega arith; first = inr more }) ] | inr more ↦ (1, record { few = omega arith; below = omega arith; first = inr more }) ] | inr more ↦ (0, record { few = omega arith; below = omega arith; first = inr more }) ]

-- as many noughts as columns are left out at least stand in front of a number that has as many digits fewer
pub left_out : (n l z : ℕ) → l ≤ 2 → n < 10 ^ (8 - l) → IsLedBy n z → l ≤ z
left_out n zero z few small led = omega arith
left_out n (suc zero) zero few small led = elim led.first [ inl other ↦ absurd (omega arith) | inr some ↦ absurd (omega arith) ]
left_out n (suc zero) (suc z) few small led = omega arith
left_out n (suc (suc zero)) zero few small led = elim led.first [ inl other ↦ absurd (omega arith) | inr some ↦ absurd (omega arith) ]
left_out n (suc (suc zero)) (suc zero) few small led = elim led.first [ inl other ↦ absurd (omega arith) | inr some ↦ absurd (omega arith) ]
left_out n (suc (suc zero)) (suc (suc z)) few small led = omega arith
left_out n (suc (suc (suc l))) z few small led = absurd (omega arith)

-- spaces in place of the noughts in front of a number
pub blanked : (x n z : ℕ) → x + 3472328296227680304 ≡ packed (digits_of 8 n) → IsLedBy n z → x + 3472328296227680304 ≡ packed (replicate z 32 ++ digits_of (8 - z) n) + 16 * ones z
blanked x n z is led =
    let all : z + (8 - z) ≡ 8 = omega (arith, led.few) in
    is ∙ ap packed (lead n z (8 - z) all led.below) ∙ packed_lower z (digits_of (8 - z) n)

-- a point and seven decimals
pub decimals_are : (x n : ℕ) → n < 10000000 → x + 3472328296227680304 ≡ packed (digits_of 8 n) → bytes_low_first 0 8 (x + 3472328296227680302) ≡ 46 ∷ digits_of 7 n
decimals_are x n small is =
    let front = packed_low 46 (digits_of 7 n) (omega arith) in
    let nought = packed_low 48 (digits_of 7 n) (omega arith) in
    let more : packed (digits_of 8 n) ≡ packed (48 ∷ digits_of 7 n) = ap packed (lead_one 7 n small) in
    let number : x + 3472328296227680302 ≡ packed (46 ∷ digits_of 7 n) = omega (arith, is, more, front, nought) in
    let many : length (46 ∷ digits_of 7 n) ≡ 8 = omega (arith, length_digits 7 n) in
    ap (λ (m : ℕ). bytes_low_first 0 8 m) number ∙ low_is (packed (46 ∷ digits_of 7 n)) ∙ ap (λ (j : ℕ). take j (low_bytes 8 (packed (46 ∷ digits_of 7 n)))) (sym many) ∙ bytes_back 8 (46 ∷ digits_of 7 n) (omega arith, bytes-digits 7 n) (omega (arith, many))

-- what noughts are more than spaces
pub blanks_are : (z bits shift less : ℕ) → z ≤ 7 → bits ≡ z * 8 → shift ≡ 1 * 2 ^ (bits % 64) % 2 ^ 64 → less ≡ (shift + (2 ^ 64 - 1)) % 2 ^ 64 → bit_and less 1157442765409226768 ≡ 16 * ones z
unfolding ones
blanks_are zero bits shift less few a b c = rw (c, b, a) refl
blanks_are (suc zero) bits shift less few a b c = rw (c, b, a) refl
blanks_are (suc (suc zero)) bits shift less few a b c = rw (c, b, a) refl
blanks_are (suc (suc (suc zero))) bits shift less few a b c = rw (c, b, a) refl
blanks_are (suc (suc (suc (suc zero)))) bits shift less few a b c = rw (c, b, a) refl
blanks_are (suc (suc (suc (suc (suc zero))))) bits shift less few a b c = rw (c, b, a) refl
blanks_are (suc (suc (suc (suc (suc (suc zero)))))) bits shift less few a b c = rw (c, b, a) refl
blanks_are (suc (suc (suc (suc (suc (suc (suc zero))))))) bits shift less few a b c = rw (c, b, a) refl
blanks_are (suc (suc (suc (suc (suc (suc (suc (suc z)))))))) bits shift less few a b c = absurd (omega arith)

pub small_enough : (n l : ℕ) → l ≤ 2 → n < 10 ^ (8 - l) → n < 100000000
small_enough n zero few small = omega arith
small_enough n (suc zero) few small = omega arith
small_enough n (suc (suc zero)) few small = omega arith
small_enough n (suc (suc (suc l))) few small = absurd (omega arith)
