use Rattle.std.proofs.Common.{arith}
use Rattle.mil_bus.proofs.Masks.{all_set}
use Rattle.mil_bus.proofs.terminals.Terminals.make.Goals as goal

pub invariant_of-result : goal.invariant_of-result
invariant_of-result c = (c.in_ok-list.ensures.index, λ k d lt clear. absurd (all_set k (omega (arith, c.in_ok-list.ensures.index.few)) clear))
