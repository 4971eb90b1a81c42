use Rattle.frame_tree.specs.Tree.{negated}
use Rattle.frame_text.specs.OutlineParts.{condition_known}
use Rattle.frame_text.proofs.Made.{condition_is}
use Rattle.frame_text.proofs.weights.WeigherBuilder.not.Goals as goal

pub returns-clause-is : goal.returns-clause-is
returns-clause-is c = condition_is c.asked_of.result.value (negated (condition_known c.args.inner.value)) _ c.asked_of.ensures
