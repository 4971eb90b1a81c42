use Rattle.mil_trunk.proofs.Steps.{starts}
use Rattle.mil_trunk.proofs.trunk.Trunk.begin.Goals as goal

pub another-end-requires-clause-rule : goal.another-end-requires-clause-rule
another-end-requires-clause-rule g c = starts g.T.Tagged.tag_of _ _ g.B.Bounding.bounds c.in_ok-queue.ensures.3
