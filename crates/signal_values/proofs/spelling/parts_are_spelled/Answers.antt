use Rattle.std.proofs.Common.{arith}
use Rattle.signal_values.proofs.Back.{spelled}
use Rattle.signal_values.proofs.spelling.parts_are_spelled.Goals as goal

pub returns : goal.returns
returns c = λ part some small. spelled 17 part some (omega (arith, small))
