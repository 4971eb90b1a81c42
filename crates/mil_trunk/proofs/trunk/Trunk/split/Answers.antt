use Rattle.std.proofs.Common.{ap, ◌∙◌}
use Rattle.mil_trunk.specs.Ends.{tags_of}
use Rattle.mil_trunk.specs.Tags.{has}
use Rattle.mil_trunk.proofs.Sets.{has-minus}
use Rattle.mil_trunk.proofs.trunk.Trunk.split.Goals as goal

pub returns-clause-gone : goal.returns-clause-gone
returns-clause-gone g c = λ t. ap (λ s. has s t) c.part.ensures.gone ∙ has-minus (tags_of c.args.ticket.now) c.args.tags t
