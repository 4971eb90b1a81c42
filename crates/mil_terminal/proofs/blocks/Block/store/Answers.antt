use Rattle.std.proofs.Common.{ℕ, ◌*◌, List, length, set, ap, ◌∙◌, arith}
use Rattle.mil_terminal.specs.Slots.{slots}
use Rattle.mil_terminal.proofs.SlotLemmas.{slots-written, refilled}
use Rattle.mil_terminal.proofs.blocks.Block.store.Goals as goal

pub returns : goal.returns
returns c =
    rw (← c.self.view_is, c.deref_mut.ensures.value, c.copy_from_slice.ensures.after)
    (ap (λ (words : List ℕ). slots (set c.self.inside.counts c.args.slot (length c.args.words.now)) words)
    (refilled c.self.inside.words.len (32 * c.args.slot) c.self.inside.words.items c.args.words.now (omega arith) (omega arith))
    ∙ slots-written c.self.inside.counts c.self.inside.words.items c.args.words.now c.args.slot (omega arith) (omega arith) (omega arith) (λ i lt. c.self.invariant.2 i (omega arith)))
