use Rattle.std.proofs.Common.{[], sym, ap, ◌∙◌}
use Rattle.bench_settings.specs.Placing.{placed_up_to}
use Rattle.bench_run.proofs.Reports.{nothing_up_to, nothing_ordered, alike_up_to}
use Rattle.bench_run.proofs.reporting.reported.Goals as goal

pub add_all-requires : goal.add_all-requires
add_all-requires c = nothing_ordered _ c.none-ordered.ensures.actions

pub returns-clause-ordered : goal.returns-clause-ordered
returns-clause-ordered c =
    let first = c.in_ok-add_all.ensures.listed [] (c.none-ordered.ensures.actions ∙ sym (nothing_up_to 1000000)) in
    let all = c.in_ok-add_all-2.ensures.listed c.sort.new.self first in
    c.of.ensures ∙ all ∙ alike_up_to 1000000 c.sort.new.self _ _ c.in_ok-sort.ensures.stable ∙ ap (placed_up_to 1000000) c.end-placed.ensures.actions
