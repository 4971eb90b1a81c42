use Rattle.std.proofs.Common.{◌≡◌, ◌+◌, ◌*◌, ◌/◌, ◌%◌, arith}
use Rattle.bench_decode.proofs.DigitLemmas.{eight_is}
use Rattle.bench_decode.proofs.digits.eight_digits.Goals as goal

pub returns-clause-digits : goal.returns-clause-digits
returns-clause-digits c =
    let n = c.args.number in
    let halves = c.split_hundreds.ensures (n / 10000) (n % 10000) (omega arith) (omega arith) (omega arith) in
    let pairs = c.split_tens.ensures (n / 1000000) (n / 10000 % 100) (n / 100 % 100) (n % 100) (omega arith) (omega arith) (omega arith) (omega arith) (omega (arith, halves)) in
    eight_is n c.split_tens.result c.requires pairs

pub returns-clause-small : goal.returns-clause-small
returns-clause-small c =
    let n = c.args.number in
    let halves = c.split_hundreds.ensures (n / 10000) (n % 10000) (omega arith) (omega arith) (omega arith) in
    let pairs = c.split_tens.ensures (n / 1000000) (n / 10000 % 100) (n / 100 % 100) (n % 100) (omega arith) (omega arith) (omega arith) (omega arith) (omega (arith, halves)) in
    omega (arith, pairs)
