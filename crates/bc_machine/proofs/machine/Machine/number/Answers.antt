use Rattle.std.proofs.Common.{arith}
use Rattle.bc_machine.proofs.Next.{few}
use Rattle.bc_machine.proofs.machine.Machine.number.Goals as goal

pub returns-clause-range : goal.returns-clause-range
returns-clause-range c = omega (arith, c.number.ensures, few c.self.inside.parts c.self.invariant)
