use Rattle.std.proofs.Common.{refl}
use Rattle.mil_terminal.proofs.SlotLemmas.{slots-none, none_counted}
use Rattle.mil_terminal.proofs.blocks.Block.clear.Goals as goal

pub invariant_of-self : goal.invariant_of-self
invariant_of-self c = (c.self.invariant.0, refl, λ i lt. none_counted 160 i)

pub returns : goal.returns
returns c = slots-none 160 c.self.inside.words.items
