use Rattle.frame_tree.specs.Tree.{choose}
use Rattle.frame_text.specs.OutlineParts.{condition_known, tree_known}
use Rattle.frame_text.proofs.Made.{tree_is}
use Rattle.frame_text.proofs.Weighing.{weighs_choice}
use Rattle.frame_text.proofs.weights.WeigherBuilder.choose.Goals as goal

pub returns-clause-tree : goal.returns-clause-tree
returns-clause-tree c = tree_is c.outline_of.result.value (choose (condition_known c.args.asked.value) (tree_known c.args.then.outline.value) (tree_known c.args.otherwise.outline.value)) _ c.outline_of.ensures

pub returns-clause-fits : goal.returns-clause-fits
returns-clause-fits c ds ms first second =
    weighs_choice ds ms (condition_known c.args.asked.value) (tree_known c.args.then.outline.value) (tree_known c.args.otherwise.outline.value) _ c.args.then c.args.otherwise _ (returns-clause-tree c) c.max-messages.ensures c.deeper-depth.ensures first second
