use Rattle.std.proofs.Common.{◌≡◌, min}
use Rattle.frame_asm.specs.Shapes.{size}
use Rattle.frame_asm.proofs.Chains.{front}
use Rattle.frame_asm.proofs.sizes.+operation_count.Given as goal

abbrev pub invariant-loop-frame : goal.invariant-loop-frame
invariant-loop-frame g l = l.total ≡ min 4096 (size (front l.frame-index l.frame-items))
