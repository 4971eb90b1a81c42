use Rattle.std.proofs.Common.{refl}
use Rattle.bench_decode.proofs.DigitLemmas.{trailing}
use Rattle.bench_decode.proofs.digits.leading_bits.Goals as goal

pub returns : goal.returns
returns c = λ n z is led. rw (trailing c.args.digits n z is led) refl
