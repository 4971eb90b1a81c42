-- Decimal digits, read back.
use Rattle.std.proofs.Common.{◌≡◌, ℕ, zero, suc, ◌+◌, ◌-◌, ◌*◌, ◌/◌, ◌%◌, ◌^◌, ◌<◌, Bool, true, false, List, [], ◌∷◌, ◌++◌, length, refl, sym, ap, ◌∙◌, arith, length-append}
use Rattle.std.proofs.lemmas.Bool.Decides.{nat_tests}
use Rattle.std.proofs.lemmas.Int.Digits.{digits_value_push}
use Rattle.std.proofs.lemmas.Str.{digit_value_digit}
use Rattle.std.proofs.Math.Nat.{mul_assoc}
use Rattle.std.proofs.Math.Pow.{pow-add}
use Rattle.std.specs.Prelude.{◌==◌}
use Rattle.std.specs.Char.{digit_value}
use Rattle.std.specs.Str.Parse.{digits_value, AllDigits}
use Rattle.signal_values.specs.Spelling.{IsSpelled}
use Rattle.signal_values.specs.Texts.{digits_of, fraction}
use Rattle.signal_values.proofs.Digits.{digits_next, zero_next}

digit_back : (d : ℕ) → d < 10 → digit_value (48 + d) ≡ d
digit_back d few = omega (arith, digit_value_digit (48 + d) (omega arith, omega arith))

ten_more : (k : ℕ) → 10 ^ suc k ≡ 10 ^ k * 10
ten_more k = let same : k + 1 ≡ suc k = omega arith in sym (ap (λ (n : ℕ). 10 ^ n) same) ∙ pow-add 10 k 1

digits_step : (count value : ℕ) → digits_of (suc count) value ≡ digits_of count (value / 10) ++ (48 + value % 10) ∷ []
unfolding digits_of
digits_step count value = refl

digits_none : (value : ℕ) → digits_of 0 value ≡ []
unfolding digits_of
digits_none value = refl

digits_length : (count value : ℕ) → length (digits_of count value) ≡ count
digits_length zero value = ap length (digits_none value)
digits_length (suc count) value =
    ap length (digits_step count value) ∙ omega (arith, length-append (digits_of count (value / 10)) ((48 + value % 10) ∷ []), digits_length count (value / 10))

tenth_below : (count value : ℕ) → value < 10 ^ suc count → value / 10 < 10 ^ count
tenth_below count value small = omega (arith, small, ten_more count)

digits_back : (count value : ℕ) → value < 10 ^ count → digits_value 10 (digits_of count value) ≡ value
digits_back zero value small = ap (digits_value 10) (digits_none value) ∙ omega (arith, small)
digits_back (suc count) value small =
    let last : value % 10 < 10 = omega arith in
    ap (digits_value 10) (digits_step count value) ∙ digits_value_push 10 (digits_of count (value / 10)) (48 + value % 10)
    ∙ omega (arith, digits_back count (value / 10) (tenth_below count value small), digit_back (value % 10) last)

all_more : (text : List ℕ) (b : ℕ) → AllDigits 10 text → digit_value b < 10 → AllDigits 10 (text ++ b ∷ [])
all_more [] b all is = (is, tt)
all_more (first ∷ text) b all is = (all.0, all_more text b all.1 is)

digits_all : (count value : ℕ) → AllDigits 10 (digits_of count value)
digits_all zero value = rw (digits_none value) tt
digits_all (suc count) value =
    let last : value % 10 < 10 = omega arith in
    rw (digits_step count value) (all_more (digits_of count (value / 10)) (48 + value % 10) (digits_all count (value / 10)) (omega (arith, digit_back (value % 10) last)))

-- a zero at the end is left out
more_zeros : (count value : ℕ) (text : List ℕ) → value % 10 ≡ 0 → IsSpelled count (value / 10) text → IsSpelled (suc count) value text
more_zeros count value text none is =
    let number = digits_value 10 text in
    let left = count - length text in
    let gap : suc count - length text ≡ suc left = omega (arith, is.few) in
    let whole : number * 10 ^ (suc count - length text) ≡ value / 10 * 10 =
    ap (λ (k : ℕ). number * 10 ^ k) gap ∙ (ap (λ (n : ℕ). number * n) (ten_more left) ∙ (sym (mul_assoc number (10 ^ left) 10) ∙ ap (λ (n : ℕ). n * 10) is.value)) in
    record {
      digits = is.digits;
      few = omega (arith, is.few);
      value = omega (arith, whole, none);
      front = is.front;
      last = is.last;
      ends = is.ends;
      some = is.some;
    }

no_zeros : (count value : ℕ) → (value % 10 ≡ 0 → ⊥) → value < 10 ^ suc count → IsSpelled (suc count) value (digits_of (suc count) value)
no_zeros count value some small =
    let text = digits_of (suc count) value in
    let long : length text ≡ suc count = digits_length (suc count) value in
    let left : suc count - length text ≡ 0 = omega (arith, long) in
    let last : (value % 10 ≡ 0 → ⊥) = some in
    record {
      digits = digits_all (suc count) value;
      few = omega (arith, long);
      value = ap (λ (k : ℕ). digits_value 10 text * 10 ^ k) left ∙ omega (arith, digits_back (suc count) value small);
      front = digits_of count (value / 10);
      last = 48 + value % 10;
      ends = digits_step count value;
      some = omega (arith, last);
    }

spelled_next : (count value : ℕ) (b : Bool) → (value % 10 == 0) ≡ b → 0 < value → value < 10 ^ suc count
    → ((v : ℕ) → 0 < v → v < 10 ^ count → IsSpelled count v (fraction count v)) → IsSpelled (suc count) value (fraction (suc count) value)
spelled_next count value true is some small before =
    let none : value % 10 ≡ 0 = grind (arith, nat_tests) in
    rw (zero_next count value is) (more_zeros count value (fraction count (value / 10)) none (before (value / 10) (omega (arith, some, none)) (tenth_below count value small)))
spelled_next count value false is some small before =
    rw (digits_next count value is) (no_zeros count value (λ none. let test : (value % 10 == 0) ≡ true = grind (arith, nat_tests) in let lost : true ≡ false = sym test ∙ is in cc) small)

-- parts of one are spelled
pub spelled : (count value : ℕ) → 0 < value → value < 10 ^ count → IsSpelled count value (fraction count value)
spelled zero value some small = absurd (omega (arith, some, small))
spelled (suc count) value some small = spelled_next count value (value % 10 == 0) refl some small (spelled count)
