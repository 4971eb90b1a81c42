use Rattle.std.proofs.Common.{ap, ◌∙◌}
use Rattle.mil_trunk.specs.Ends.{tags_of}
use Rattle.mil_trunk.specs.Tags.{has}
use Rattle.mil_trunk.proofs.Sets.{has-union}
use Rattle.mil_trunk.proofs.Parts.{joining}
use Rattle.mil_trunk.proofs.trunk.Trunk.take_in.Goals as goal

pub absorb-requires-clause-rule : goal.absorb-requires-clause-rule
absorb-requires-clause-rule g c = joining g.T.Tagged.tag_of _ _ _ _ (ap (λ v. v.live) c.requires.0.1) (ap (λ v. v.live) c.requires.1.1) (ap (λ v. v.takes) c.requires.0.1)

pub returns-clause-tags : goal.returns-clause-tags
returns-clause-tags g c = λ t. ap (λ v. has v.tags t) c.absorb.ensures.rule ∙ has-union (tags_of c.args.ticket.now) (tags_of c.args.other) t
