use Rattle.frame_asm.proofs.Whole.{behaves}
use Rattle.frame_asm.proofs.code_means.Goals as goal

pub returns : goal.returns
returns g c w t p s = behaves w t p s.in_range s.defined
