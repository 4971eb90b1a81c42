use Rattle.mil_trunk.proofs.Sets.{has-zero}
use Rattle.mil_trunk.proofs.tags.Tags.none.Goals as goal

pub returns : goal.returns
returns c = has-zero
