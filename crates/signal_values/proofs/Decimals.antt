-- Decimal numbers of four bits a digit, one digit after the other.
use Rattle.std.proofs.Common.{◌≡◌, ℕ, suc, ◌+◌, ◌*◌, ◌/◌, ◌%◌, ◌^◌, ◌<◌, ◌≤◌, Bool, true, false, refl, sym, ap, ◌∙◌, add-one, arith}
use Rattle.std.proofs.lemmas.Bool.Decides.{nat_tests}
use Rattle.std.proofs.Math.Nat.{pow-le-pow_right}
use Rattle.std.proofs.Math.Pow.{pow-add}
use Rattle.std.specs.Prelude.{Option, Some, None, nat_le, if◌then◌else◌}
use Rattle.signal_values.specs.Readings.{decimals, with_digit}

pub no_digits : (count field : ℕ) → count ≡ 0 → Some 0 ≡ decimals count field
unfolding decimals
no_digits count field is = rw is refl

step_next : (before field : ℕ) → decimals (suc before) field ≡ with_digit (decimals before (field / 16)) (field % 16)
unfolding decimals
step_next before field = refl

step : (count before field : ℕ) → count ≡ before + 1 → decimals count field ≡ with_digit (decimals before (field / 16)) (field % 16)
step count before field is = ap (λ (k : ℕ). decimals k field) (is ∙ add-one before) ∙ step_next before field

with_more : (count before field : ℕ) (upper : Option ℕ) → count ≡ before + 1 → upper ≡ decimals before (field / 16)
    → with_digit upper (field % 16) ≡ decimals count field
with_more count before field upper is above = ap (λ (o : Option ℕ). with_digit o (field % 16)) above ∙ sym (step count before field is)

pub digit_behind_none : (count before field : ℕ) → count ≡ before + 1 → None ≡ decimals before (field / 16) → None ≡ decimals count field
digit_behind_none count before field is above = with_more count before field None is above

pub digit_behind : (count before field upper : ℕ) → count ≡ before + 1 → Some upper ≡ decimals before (field / 16) → field % 16 ≤ 9
    → Some (upper * 10 + field % 16) ≡ decimals count field
digit_behind count before field upper is above few =
    let test : nat_le (field % 16) 9 ≡ true = grind (arith, nat_tests) in
    sym (ap (λ (b : Bool). let some : Option ℕ = (if b then Some (upper * 10 + field % 16) else None) in some) test)
    ∙ with_more count before field (Some upper) is above

pub digit_above : (count before field upper : ℕ) → count ≡ before + 1 → Some upper ≡ decimals before (field / 16) → 9 < field % 16
    → None ≡ decimals count field
digit_above count before field upper is above many =
    let test : nat_le (field % 16) 9 ≡ false = grind (arith, nat_tests) in
    sym (ap (λ (b : Bool). let some : Option ℕ = (if b then Some (upper * 10 + field % 16) else None) in some) test)
    ∙ with_more count before field (Some upper) is above

-- at most eight digits spell a small number
pub few_digits : (before upper : ℕ) → before ≤ 7 → upper < 10 ^ before → upper < 10000000
few_digits before upper few below =
    let top : 10 ^ before ≤ 10000000 = pow-le-pow_right {n = 10} (omega arith) {i = before} {j = 7} few in omega (arith, below, top)

pub one_more : (count before upper digit : ℕ) → count ≡ before + 1 → upper < 10 ^ before → digit ≤ 9 → upper * 10 + digit < 10 ^ count
one_more count before upper digit is below few = rw (is, pow-add 10 before 1) (omega (arith, below, few))
