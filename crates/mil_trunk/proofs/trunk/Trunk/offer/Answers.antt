use Rattle.std.proofs.Common.{ap}
use Rattle.mil_trunk.proofs.Steps.{pushes, learns}
use Rattle.mil_trunk.proofs.trunk.Trunk.offer.Goals as goal

pub push_as-requires-clause-rule : goal.push_as-requires-clause-rule
push_as-requires-clause-rule g c =
    let live = ap (λ v. v.live) c.requires.ticket.1 in (
      pushes g.T.Tagged.tag_of _ _ _ _ live c.requires.tag c.requires.bound,
      learns g.T.Tagged.tag_of _ _ live,
    )
