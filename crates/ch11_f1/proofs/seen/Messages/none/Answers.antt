use Rattle.std.proofs.Common.{refl}
use Rattle.ch11_f1.specs.BodyReading.{messages_at}
use Rattle.ch11_f1.proofs.seen.Messages.none.Goals as goal

pub invariant_of-result : goal.invariant_of-result
unfolding messages_at
invariant_of-result c = refl

pub returns : goal.returns
unfolding messages_at
returns c = refl
