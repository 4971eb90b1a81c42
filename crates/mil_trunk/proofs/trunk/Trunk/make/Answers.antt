use Rattle.std.proofs.Common.{ap, ◌∙◌}
use Rattle.mil_trunk.specs.Tags.{has}
use Rattle.mil_trunk.proofs.Sets.{has-all_tags}
use Rattle.mil_trunk.proofs.trunk.Trunk.make.Goals as goal

pub returns-in-Ok-clause-tags : goal.returns-in-Ok-clause-tags
returns-in-Ok-clause-tags g c = λ t below. ap (λ s. has s t) c.in-Ok.ensures.tags ∙ has-all_tags t below
