use Rattle.std.proofs.Common.{◌≡◌, ℕ, ◌≤◌, List, [], ap, sym, ◌∙◌, arith, length, get_or}
use Rattle.mil_terminal.proofs.SlotLemmas.{length-slots}
use Rattle.mil_terminal.proofs.Packing.{length-slot, len-none, len-some, len-all}
use Rattle.mil_terminal.proofs.blocks.Block.kept_len.Goals as goal
use Rattle.mil_terminal.proofs.blocks.Block.kept_len.Goals.{then-count-gt0, else-count-gt0}

pub loop-count-preserved : goal.loop-count-preserved
loop-count-preserved c =
    let at : ℕ = c.loop-count.count-index in
    let n : ℕ = get_or c.self.inside.counts at 0 in
    let long : length c.args.self.now ≡ 160 = ap (λ (xs : List (List ℕ)). length xs) (sym c.self.view_is) ∙ length-slots c.self.inside.counts c.self.inside.words.items ∙ c.self.invariant.1 in
    let few : n ≤ 32 = c.self.invariant.2 at (omega arith) in
    let same : length (get_or c.args.self.now at []) ≡ n =
    rw (← c.self.view_is) (length-slot c.self.inside.counts c.self.inside.words.items at (omega arith) (omega arith) few) in
    elim c.if-count-gt0.branch [
      | then-count-gt0 w ↦ record {
        few = omega (arith, w.len-is, w.from.ensures, few);
        sum = omega (arith, w.len-is, w.from.ensures, len-some c.args.self.now at n c.loop-count.len (omega arith) same (omega (arith, w.if-count-gt0.true)) c.loop-count.invariant.sum);
      }
      | else-count-gt0 w ↦ record {
        few = omega (arith, w.len-is);
        sum = omega (arith, w.len-is, len-none c.args.self.now at n c.loop-count.len (omega arith) same (omega (arith, w.if-count-gt0.false)) c.loop-count.invariant.sum);
      }
    ]

pub returns : goal.returns
returns c =
    let long : length c.args.self.now ≡ 160 = ap (λ (xs : List (List ℕ)). length xs) (sym c.self.view_is) ∙ length-slots c.self.inside.counts c.self.inside.words.items ∙ c.self.invariant.1 in
    len-all c.args.self.now c.loop-count.count-index c.loop-count.len (omega arith) c.loop-count.invariant.sum
