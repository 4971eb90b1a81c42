use Rattle.frame_tree.specs.Tree.{both}
use Rattle.frame_text.specs.OutlineParts.{condition_known}
use Rattle.frame_text.proofs.Made.{condition_is}
use Rattle.frame_text.proofs.weights.WeigherBuilder.all.Goals as goal

pub returns-clause-is : goal.returns-clause-is
returns-clause-is c = condition_is c.asked_of.result.value (both (condition_known c.args.first.value) (condition_known c.args.second.value)) _ c.asked_of.ensures
