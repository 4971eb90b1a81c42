use Rattle.std.proofs.Common.{refl}
use Rattle.mil_terminal.proofs.Acts.{starts}
use Rattle.mil_terminal.proofs.registers.Registers.make.Goals as goal

pub returns-clause-stands : goal.returns-clause-stands
returns-clause-stands c = starts _ refl (c.at_first.ensures _) c.none.ensures c.none-2.ensures c.none-3.ensures refl c.in_ok-block.ensures
