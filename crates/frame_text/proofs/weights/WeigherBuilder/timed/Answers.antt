use Rattle.std.proofs.Common.{refl}
use Rattle.frame_tree.specs.Tree.{timed}
use Rattle.frame_text.specs.OutlineParts.{tree_known}
use Rattle.frame_text.proofs.Made.{tree_is}
use Rattle.frame_text.proofs.Weighing.{weighs_timed}
use Rattle.frame_text.proofs.weights.WeigherBuilder.timed.Goals as goal

pub returns-clause-tree : goal.returns-clause-tree
returns-clause-tree c = tree_is c.outline_of.result.value (timed c.args.hundreds (tree_known c.args.body.outline.value)) _ c.outline_of.ensures

pub returns-clause-fits : goal.returns-clause-fits
returns-clause-fits c ds ms of = weighs_timed ds ms c.args.hundreds (tree_known c.args.body.outline.value) _ c.args.body _ (returns-clause-tree c) refl c.deeper-depth.ensures of
