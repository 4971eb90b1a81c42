use Rattle.std.proofs.Common.{refl}
use Rattle.bench_decode.proofs.DigitLemmas.{blanks_are}
use Rattle.bench_decode.proofs.digits.blanks_of.Goals as goal

pub returns : goal.returns
returns c = λ z few is. blanks_are z c.args.bits c.wrapping_shl.result _ few is c.wrapping_shl.ensures refl
