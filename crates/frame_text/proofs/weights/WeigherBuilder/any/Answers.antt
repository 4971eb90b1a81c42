use Rattle.frame_tree.specs.Tree.{either}
use Rattle.frame_text.specs.OutlineParts.{condition_known}
use Rattle.frame_text.proofs.Made.{condition_is}
use Rattle.frame_text.proofs.weights.WeigherBuilder.any.Goals as goal

pub returns-clause-is : goal.returns-clause-is
returns-clause-is c = condition_is c.asked_of.result.value (either (condition_known c.args.first.value) (condition_known c.args.second.value)) _ c.asked_of.ensures
