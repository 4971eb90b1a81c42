use Rattle.std.proofs.Common.{ℕ, ◌*◌, take, drop, sym, ap, ◌∙◌, arith, []}
use Rattle.mil_terminal.proofs.SlotLemmas.{slots_at}
use Rattle.mil_terminal.proofs.blocks.Block.at.Goals as goal

pub returns-clause-value : goal.returns-clause-value
returns-clause-value c =
    rw (← c.self.view_is, c.deref.ensures.value)
    (ap (λ (n : ℕ). take n (drop (32 * c.args.slot) c.self.inside.words.items)) (omega arith) ∙ sym (slots_at c.self.inside.counts c.self.inside.words.items c.args.slot [] (omega arith)))
