use Rattle.frame_tree.specs.Tree.{until}
use Rattle.frame_text.specs.OutlineParts.{condition_known, tree_known}
use Rattle.frame_text.proofs.Made.{tree_is}
use Rattle.frame_text.proofs.Weighing.{weighs_until}
use Rattle.frame_text.proofs.weights.WeigherBuilder.until.Goals as goal

pub returns-clause-tree : goal.returns-clause-tree
returns-clause-tree c = tree_is c.outline_of.result.value (until (condition_known c.args.asked.value) c.args.count (tree_known c.args.body.outline.value)) _ c.outline_of.ensures

pub returns-clause-fits : goal.returns-clause-fits
returns-clause-fits c ds ms of =
    weighs_until ds ms (condition_known c.args.asked.value) c.args.count (tree_known c.args.body.outline.value) _ c.args.body _ (returns-clause-tree c) c.times_capped-messages.ensures c.deeper-depth.ensures of
