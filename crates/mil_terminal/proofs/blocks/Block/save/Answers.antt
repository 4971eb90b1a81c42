use Rattle.std.proofs.Common.{◌≡◌, List, ℕ, ap, sym, ◌∙◌, arith, length}
use Rattle.mil_terminal.proofs.SlotLemmas.{length-slots}
use Rattle.mil_terminal.proofs.Packing.{packed-more, packed-all, slots_few}
use Rattle.mil_terminal.proofs.blocks.Block.save.Goals as goal

pub loop-slot-preserved : goal.loop-slot-preserved
loop-slot-preserved c =
    let long : length c.args.self.now ≡ 160 = ap (λ (xs : List (List ℕ)). length xs) (sym c.self.view_is) ∙ length-slots c.self.inside.counts c.self.inside.words.items ∙ c.self.invariant.1 in
    packed-more c.args.self.now c.loop-slot.slot c.loop-slot.words.items _ c.at.result.now (omega (arith, c.loop-slot-test.true)) c.at.ensures.value c.in_ok-put_entry.ensures c.loop-slot.invariant

pub invariant_of-result : goal.invariant_of-result
invariant_of-result c =
    let long : length c.args.self.now ≡ 160 = ap (λ (xs : List (List ℕ)). length xs) (sym c.self.view_is) ∙ length-slots c.self.inside.counts c.self.inside.words.items ∙ c.self.invariant.1 in
    rw c.of.ensures (record {
      whole = packed-all c.args.self.now c.loop-slot.slot c.loop-slot.words.items (omega (arith, c.loop-slot-test.false)) c.loop-slot.invariant;
      long = long;
      few = rw (← c.self.view_is) (slots_few c.self.inside.counts c.self.inside.words.items (λ i lt. c.self.invariant.2 i (omega (arith, c.self.invariant.1))));
    })
