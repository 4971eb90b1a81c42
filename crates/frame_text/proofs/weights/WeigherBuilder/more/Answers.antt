use Rattle.std.proofs.Common.{ap, ◌∙◌}
use Rattle.std.proofs.lemmas.List.{map-append}
use Rattle.frame_text.specs.Outlines.{Outlined}
use Rattle.frame_text.specs.OutlineParts.{tree_known, row_known}
use Rattle.frame_text.specs.Outlines.{tree_made}
use Rattle.frame_text.proofs.Weighing.{weighs_more}
use Rattle.frame_text.proofs.weights.WeigherBuilder.more.Goals as goal

pub returns-clause-row : goal.returns-clause-row
returns-clause-row c = ap (λ (o : Outlined). row_known o) c.outline_of.ensures ∙ map-append tree_made c.args.before.outline.value.row _

pub returns-clause-fits : goal.returns-clause-fits
returns-clause-fits c ds ms before one =
    weighs_more ds ms (row_known c.args.before.outline.value) _ (tree_known c.args.one.outline.value) c.args.before c.args.one _ (returns-clause-row c) c.sum_capped-messages.ensures c.max-depth.ensures before one
