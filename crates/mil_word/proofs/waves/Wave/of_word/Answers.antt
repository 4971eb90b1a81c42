use Rattle.std.proofs.Common.{arith}
use Rattle.mil_word.proofs.Keeping.{keeps_word}
use Rattle.mil_word.proofs.waves.Wave.of_word.Goals as goal

pub invariant_of-result : goal.invariant_of-result
invariant_of-result c = rw c.number_of.ensures.value (keeps_word c.args.word (omega arith))
