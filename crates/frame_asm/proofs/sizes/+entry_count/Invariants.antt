use Rattle.std.proofs.Common.{◌≡◌, min}
use Rattle.frame_asm.specs.Shapes.{entries}
use Rattle.frame_asm.proofs.Chains.{front}
use Rattle.frame_asm.proofs.sizes.+entry_count.Given as goal

abbrev pub invariant-loop-frame : goal.invariant-loop-frame
invariant-loop-frame g l = l.total ≡ min 1025 (entries (front l.frame-index l.frame-items))
