use Rattle.std.proofs.Common.{refl}
use Rattle.mil_terminal.proofs.SlotLemmas.{slots-none, none_counted}
use Rattle.mil_terminal.proofs.blocks.Block.empty.Goals as goal

pub invariant_of-result : goal.invariant_of-result
invariant_of-result c = (c.in_ok-words.ensures.len, refl, λ i lt. none_counted 160 i)

pub returns : goal.returns
returns c = slots-none 160 c.in_ok-words.words.items
