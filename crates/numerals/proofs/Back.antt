-- The numbers of words that were printed, and of any that spell one.
use Rattle.std.proofs.Common.{◌≡◌, ℕ, zero, suc, ◌+◌, ◌*◌, ◌/◌, ◌%◌, ◌^◌, ◌≤◌, ◌<◌, List, Bool, true, false, cond, [], ◌∷◌, length, refl, ap, arith, Option, Some, None}
use Rattle.std.specs.Prelude.{decimal, nat_lt, nat_le, ◌&&◌}
use Rattle.std.specs.Char.{digit_value}
use Rattle.std.specs.Fmt.{digit_glyph}
use Rattle.std.specs.Str.Parse.{AllDigits, digits_value}
use Rattle.std.proofs.lemmas.Bool.Decides.{nat_tests}
use Rattle.std.proofs.lemmas.Fmt.{decimal_is_IsNumeral, length-decimal-le}
use Rattle.numerals.specs.Numerals.{are_digits, spelled}
use Rattle.numerals.proofs.Digits.{and_left, and_right, value-below}

-- an upper-case hexadecimal digit is one, and no space
pub record IsGlyph (d c : ℕ) : Type 0 where
  pub below : nat_lt (digit_value c) 16 ≡ true
  pub digit : digit_value c ≡ d
  pub other : nat_lt 32 c ≡ true

pub glyph : (d : ℕ) → d < 16 → IsGlyph d (digit_glyph true d)
glyph zero lt = record { below = refl; digit = refl; other = refl }
glyph (suc zero) lt = record { below = refl; digit = refl; other = refl }
glyph (suc (suc zero)) lt = record { below = refl; digit = refl; other = refl }
glyph (suc (suc (suc zero))) lt = record { below = refl; digit = refl; other = refl }
glyph (suc (suc (suc (suc zero)))) lt = record { below = refl; digit = refl; other = refl }
glyph (suc (suc (suc (suc (suc zero))))) lt = record { below = refl; digit = refl; other = refl }
glyph (suc (suc (suc (suc (suc (suc zero)))))) lt = record { below = refl; digit = refl; other = refl }
glyph (suc (suc (suc (suc (suc (suc (suc zero))))))) lt = record { below = refl; digit = refl; other = refl }
glyph (suc (suc (suc (suc (suc (suc (suc (suc zero)))))))) lt = record { below = refl; digit = refl; other = refl }
glyph (suc (suc (suc (suc (suc (suc (suc (suc (suc zero))))))))) lt = record { below = refl; digit = refl; other = refl }
glyph (suc (suc (suc (suc (suc (suc (suc (suc (suc (suc zero)))))))))) lt = record { below = refl; digit = refl; other = refl }
glyph (suc (suc (suc (suc (suc (suc (suc (suc (suc (suc (suc zero))))))))))) lt = record { below = refl; digit = refl; other = refl }
glyph (suc (suc (suc (suc (suc (suc (suc (suc (suc (suc (suc (suc zero)))))))))))) lt = record { below = refl; digit = refl; other = refl }
glyph (suc (suc (suc (suc (suc (suc (suc (suc (suc (suc (suc (suc (suc zero))))))))))))) lt = record { below = refl; digit = refl; other = refl }
glyph (suc (suc (suc (suc (suc (suc (suc (suc (suc (suc (suc (suc (suc (suc zero)))))))))))))) lt = record { below = refl; digit = refl; other = refl }
glyph (suc (suc (suc (suc (suc (suc (suc (suc (suc (suc (suc (suc (suc (suc (suc zero))))))))))))))) lt = record { below = refl; digit = refl; other = refl }
glyph (suc (suc (suc (suc (suc (suc (suc (suc (suc (suc (suc (suc (suc (suc (suc (suc n)))))))))))))))) lt = absurd (omega arith)

-- digits are digits
pub digits_are : (word : List ℕ) → AllDigits 10 word → are_digits 10 word ≡ true
digits_are [] all = refl
digits_are (c ∷ word) all =
    let is : nat_lt (digit_value c) 10 ≡ true = grind (arith, nat_tests, all.0) in
    rw is (digits_are word all.1)

-- a printed number reads back
pub decimal_back : (most n : ℕ) → 0 < most → n < 10 ^ most → n < 18446744073709551616 → spelled 10 1 most (decimal n) ≡ Some n
unfolding spelled
decimal_back most n some fits small =
    let spelt = decimal_is_IsNumeral n small in
    let long : 1 ≤ length (decimal n) = omega (arith, spelt.0.0) in
    let few : length (decimal n) ≤ most = length-decimal-le most n some fits small in
    let at_least : nat_le 1 (length (decimal n)) ≡ true = grind (arith, nat_tests, long) in
    let at_most : nat_le (length (decimal n)) most ≡ true = grind (arith, nat_tests, few) in
    rw (digits_are (decimal n) spelt.0.1, at_least, at_most, spelt.1) refl

four : (value : ℕ) → value < 65536 → (((0 * 16 + value / 256 / 16) * 16 + value / 256 % 16) * 16 + value % 256 / 16) * 16 + value % 256 % 16 ≡ value
four value lt = omega arith

below_256 : (value : ℕ) → value < 65536 → value / 256 < 256
below_256 value lt = omega arith

pub below_16 : (byte : ℕ) → byte < 256 → byte / 16 < 16
below_16 byte lt = omega arith

-- a data word as four hexadecimal digits, in upper case
abbrev pub four_glyphs : ℕ → List ℕ
four_glyphs value = digit_glyph true (value / 256 / 16) ∷ digit_glyph true (value / 256 % 16) ∷ digit_glyph true (value % 256 / 16) ∷ digit_glyph true (value % 256 % 16) ∷ []

-- each of them is a digit above the space, and they read back
pub record IsFour (value : ℕ) : Type 0 where
  pub reads : spelled 16 4 4 (four_glyphs value) ≡ Some value
  pub first : nat_lt 32 (digit_glyph true (value / 256 / 16)) ≡ true
  pub second : nat_lt 32 (digit_glyph true (value / 256 % 16)) ≡ true
  pub third : nat_lt 32 (digit_glyph true (value % 256 / 16)) ≡ true
  pub fourth : nat_lt 32 (digit_glyph true (value % 256 % 16)) ≡ true

pub four_back : (value : ℕ) → value < 65536 → IsFour value
unfolding spelled
four_back value lt =
    let high : value / 256 < 256 = below_256 value lt in
    let low : value % 256 < 256 = omega arith in
    let a = glyph (value / 256 / 16) (below_16 (value / 256) high) in
    let b = glyph (value / 256 % 16) (omega arith) in
    let c = glyph (value % 256 / 16) (below_16 (value % 256) low) in
    let d = glyph (value % 256 % 16) (omega arith) in
    record {
      reads = rw (a.below, b.below, c.below, d.below, a.digit, b.digit, c.digit, d.digit) (ap (λ (n : ℕ). Some n) (four value lt));
      first = a.other;
      second = b.other;
      third = c.other;
      fourth = d.other;
    }

some_is : (m n : ℕ) → (let some : ℕ → Option ℕ = Some in some m ≡ some n) → m ≡ n
some_is m n e = cc

le_of : (m n : ℕ) → nat_le m n ≡ true → m ≤ n
le_of m n is = grind (arith, nat_tests, is)

-- a word of so many digits spells a number below as many places
pub spelled_below : (base least most : ℕ) (word : List ℕ) (n : ℕ) → base ≤ 16 → spelled base least most word ≡ Some n → n < 16 ^ most
unfolding spelled
spelled_below base least most word n le is = by (nat_le least (length word) && nat_le (length word) most && are_digits base word) refl is
  where
    by : (t : Bool) → (nat_le least (length word) && nat_le (length word) most && are_digits base word) ≡ t → cond t (Some (digits_value base word)) None ≡ Some n → n < 16 ^ most
    by true h e =
        let digits = and_right (nat_le least (length word) && nat_le (length word) most) (are_digits base word) h in
        let long = and_left (nat_le least (length word) && nat_le (length word) most) (are_digits base word) h in
        let few = le_of (length word) most (and_right (nat_le least (length word)) (nat_le (length word) most) long) in
        rw (some_is (digits_value base word) n e) at (value-below base most word le few digits)
    by false h e = absurd (cc)
