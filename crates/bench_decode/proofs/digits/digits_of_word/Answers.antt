use Rattle.std.proofs.Common.{arith}
use Rattle.bench_decode.proofs.Hexadecimal.{word_at}
use Rattle.bench_decode.proofs.digits.digits_of_word.Goals as goal

pub returns : goal.returns
returns c = word_at c.args.word (omega arith)
