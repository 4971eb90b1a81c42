use Rattle.std.proofs.Common.{refl, ap, ◌∙◌}
use Rattle.frame_tree.specs.Tree.{define}
use Rattle.frame_text.specs.OutlineParts.{tree_known}
use Rattle.frame_text.proofs.Made.{tree_is}
use Rattle.frame_text.proofs.Weighing.{weighs_definition}
use Rattle.frame_text.proofs.weights.WeigherBuilder.define.Goals as goal

pub returns-clause-tree : goal.returns-clause-tree
returns-clause-tree c =
    tree_is c.outline_of.result.value (define c.of.result.value (tree_known c.args.body.outline.value) (tree_known c.args.rest.outline.value)) _ c.outline_of.ensures
    ∙ ap (λ n. define n (tree_known c.args.body.outline.value) (tree_known c.args.rest.outline.value)) c.of.ensures

pub returns-clause-fits : goal.returns-clause-fits
returns-clause-fits c ds ms d cost of cut is others =
    weighs_definition ds ms c.args.name d cost (tree_known c.args.body.outline.value) (tree_known c.args.rest.outline.value) _ c.args.body c.args.rest _ (returns-clause-tree c) refl c.max-depth.ensures of cut is others
