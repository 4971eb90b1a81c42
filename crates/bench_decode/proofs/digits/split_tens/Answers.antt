use Rattle.std.proofs.Common.{◌≡◌, ◌+◌, ◌*◌, ◌/◌, ◌%◌, arith}
use lib.Bits.{bit_and}
use Rattle.bench_decode.proofs.DigitLemmas.{tens_is}
use Rattle.bench_decode.proofs.digits.split_tens.Goals as goal

pub returns : goal.returns
returns c = λ p q r s hp hq hr hs is.
    let product : c.args.twos * 103 % 18446744073709551616 ≡ (p + q * 65536 + r * 4294967296 + s * 281474976710656) * 103 = omega (arith, is) in
    let tens : bit_and (c.args.twos * 103 % 18446744073709551616 / 1024) 4222189076152335 ≡ p / 10 + q / 10 * 65536 + r / 10 * 4294967296 + s / 10 * 281474976710656 = rw product (tens_is p q r s hp hq hr hs) in
    rw tens (omega (arith, is))
