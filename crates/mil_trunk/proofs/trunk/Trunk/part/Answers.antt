use Rattle.std.proofs.Common.{ap}
use Rattle.mil_trunk.proofs.Parts.{parting}
use Rattle.mil_trunk.proofs.trunk.Trunk.part.Goals as goal

pub another-pass-requires-clause-rule : goal.another-pass-requires-clause-rule
another-pass-requires-clause-rule g c =
    let live = ap (λ v. v.live) c.requires.ticket.1 in
    parting g.T.Tagged.tag_of _ _ g.P.Parting.tags live (ap (λ v. v.takes) c.requires.ticket.1) (rw c.requires.picked c.requires.tags)
