use Rattle.std.proofs.Common.{◌≡◌, ℕ, ◌+◌, ◌-◌, ◌*◌, ◌/◌, ◌%◌, ◌++◌, List, length, take, replicate, ap, ◌∙◌, arith}
use Rattle.signal_values.specs.Texts.{digits_of}
use Rattle.bench_decode.specs.Digits.{ones, packed}
use Rattle.bench_decode.proofs.DigitLemmas.{blanked, columns_are, left_out, led_by, small_enough}
use Rattle.bench_decode.proofs.digits.in_columns.Goals as goal

pub eight_digits-digits-requires : goal.eight_digits-digits-requires
eight_digits-digits-requires c = small_enough c.args.number c.args.left_out c.requires.few c.requires.small

pub returns-clause-text : goal.returns-clause-text
returns-clause-text c =
    let n = c.args.number in
    let led = led_by n (small_enough n c.args.left_out c.requires.few c.requires.small) in
    let within = left_out n c.args.left_out led.0 c.requires.few c.requires.small led.1 in
    let bits = c.leading_bits.ensures n led.0 c.eight_digits-digits.ensures.digits led.1 in
    let blanks = c.blanks_of-blanks.ensures led.0 led.1.few bits in
    let less = blanked c.eight_digits-digits.result n led.0 c.eight_digits-digits.ensures.digits led.1 in
    let text : (c.eight_digits-digits.result + 3472328296227680304 + (18446744073709551616 - c.blanks_of-blanks.result)) % 18446744073709551616 ≡ packed (replicate led.0 32 ++ digits_of (8 - led.0) n) = omega (arith, less, blanks, c.eight_digits-digits.ensures.small) in
    ap (λ (xs : List ℕ). take (8 - c.args.left_out) xs) c.to_le_bytes.ensures ∙ columns_are n c.args.left_out led.0 _ c.requires.few within led.1 text

pub returns-clause-many : goal.returns-clause-many
returns-clause-many c = ap (λ (xs : List ℕ). length xs) c.to_le_bytes.ensures
