use Rattle.frame_tree.specs.Tree.{repeat}
use Rattle.frame_text.specs.OutlineParts.{tree_known}
use Rattle.frame_text.proofs.Made.{tree_is}
use Rattle.frame_text.proofs.Weighing.{weighs_repeat}
use Rattle.frame_text.proofs.weights.WeigherBuilder.repeat.Goals as goal

pub returns-clause-tree : goal.returns-clause-tree
returns-clause-tree c = tree_is c.outline_of.result.value (repeat c.args.count (tree_known c.args.body.outline.value)) _ c.outline_of.ensures

pub returns-clause-fits : goal.returns-clause-fits
returns-clause-fits c ds ms of =
    weighs_repeat ds ms c.args.count (tree_known c.args.body.outline.value) _ c.args.body _ (returns-clause-tree c) c.times_capped-messages.ensures c.deeper-depth.ensures of
