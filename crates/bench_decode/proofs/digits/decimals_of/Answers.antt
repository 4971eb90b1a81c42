use Rattle.std.proofs.Common.{◌≡◌, ◌+◌, ◌∙◌, arith}
use Rattle.bench_decode.proofs.DigitLemmas.{decimals_are}
use Rattle.bench_decode.proofs.digits.decimals_of.Goals as goal

pub returns : goal.returns
returns c = c.to_le_bytes.ensures ∙ decimals_are c.eight_digits.result c.args.time.ticks c.requires c.eight_digits.ensures.digits
