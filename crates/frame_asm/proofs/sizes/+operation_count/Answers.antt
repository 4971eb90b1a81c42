use Rattle.std.proofs.Common.{min, sym, ap, ◌∙◌, arith}
use Rattle.frame_tree.specs.Tree.{tree_of}
use Rattle.frame_asm.specs.Shapes.{size}
use Rattle.frame_asm.proofs.Chains.{front_size, front_all}
use Rattle.frame_asm.proofs.sizes.+operation_count.Goals as goal

pub loop-frame-preserved : goal.loop-frame-preserved
loop-frame-preserved g t c =
    omega (arith, front_size c.deref-frame-items.result.now c.loop-frame.frame-index c.frame-item.result (omega arith) c.frame-item.is, c.loop-frame.invariant, c.operation_count-in-loop-frame.ensures)

pub returns-after-loop-frame : goal.returns-after-loop-frame
returns-after-loop-frame g t c =
    c.loop-frame.invariant
    ∙ ap (λ x. min 4096 (size x)) (front_all c.in-Seq.frames c.loop-frame.frame-index c.deref-frame-items.result.now c.deref-frame-items.ensures.value (omega arith))
    ∙ ap (λ f. min 4096 (size (tree_of f))) (sym c.in-Seq.is)
