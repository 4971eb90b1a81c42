use Rattle.std.proofs.Common.{ap, ◌∙◌, rules}
use Rattle.bench_settings.specs.Placing.{placed_up_to}
use Rattle.bench_settings.proofs.Sorting.{sorted_fits, sorted_is}
use Rattle.bench_settings.proofs.placing.ordered_actions.Goals as goal

pub returns-clause-fit : goal.returns-clause-fit
returns-clause-fit c =
    sorted_fits c.args.job.now.addresses _ _ (search rules) (search rules) c.in_ok-sort.ensures.permutation c.in_ok-sort.ensures.rising

pub returns-clause-ordered : goal.returns-clause-ordered
returns-clause-ordered c =
    let is = sorted_fits c.args.job.now.addresses _ _ (search rules) (search rules) c.in_ok-sort.ensures.permutation c.in_ok-sort.ensures.rising in
    sorted_is _ _ c.in_ok-sort.ensures.stable is
    ∙ ap (placed_up_to 1000000) (c.in_ok-actions.ensures ∙ c.actions.ensures.value)
