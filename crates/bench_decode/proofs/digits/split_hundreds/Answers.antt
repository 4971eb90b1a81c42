use Rattle.std.proofs.Common.{◌≡◌, ◌+◌, ◌*◌, ◌/◌, ◌%◌, arith}
use lib.Bits.{bit_and}
use Rattle.bench_decode.proofs.DigitLemmas.{hundreds_is}
use Rattle.bench_decode.proofs.digits.split_hundreds.Goals as goal

pub returns : goal.returns
returns c = λ a b ha hb is.
    let product : c.args.fours * 10486 % 18446744073709551616 ≡ (a + b * 4294967296) * 10486 = omega (arith, is) in
    let hundreds : bit_and (c.args.fours * 10486 % 18446744073709551616 / 1048576) 545460846719 ≡ a / 100 + b / 100 * 4294967296 = rw product (hundreds_is a b ha hb) in
    rw hundreds (omega (arith, is))
