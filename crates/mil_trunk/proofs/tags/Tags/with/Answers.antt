use Rattle.std.proofs.Common.{ap, ◌∙◌}
use Rattle.mil_trunk.specs.Tags.{has}
use Rattle.mil_trunk.proofs.Sets.{has_set_same, has_set_other, set_fits}
use Rattle.mil_trunk.proofs.tags.Tags.with.Goals as goal

pub invariant_of-result : goal.invariant_of-result
invariant_of-result c = set_fits c.self.inside.bits c.args.tag c.self.invariant

pub returns-clause-this : goal.returns-clause-this
returns-clause-this c = has_set_same c.self.inside.bits c.args.tag c.requires

pub returns-clause-others : goal.returns-clause-others
returns-clause-others c = λ t ne. has_set_other c.self.inside.bits c.args.tag t c.requires ne ∙ ap (λ s. has s t) c.self.view_is
