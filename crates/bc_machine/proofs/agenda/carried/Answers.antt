use Rattle.std.proofs.Common.{◌≡◌, [], map, sym, ap, ◌∙◌, rules}
use Rattle.controller_host.specs.Sources.{advanced_by, source_in}
use Rattle.bc_machine.specs.Asking.{with_rows}
use Rattle.bc_machine.proofs.Filled.{sourced_none}
use Rattle.bc_machine.proofs.agenda.carried.Goals as goal

pub returns-then-has_no_source-clause-message : goal.returns-then-has_no_source-clause-message
returns-then-has_no_source-clause-message c =
    let none : c.args.placed.now.sources.rows ≡ [] = search rules in
    sym (sourced_none (source_in c.args.placed.now.sources.rows) c.args.message.now (λ d place. ap (λ rs. source_in rs d place) none))

pub returns-then-has_no_source-clause-schedule : goal.returns-then-has_no_source-clause-schedule
returns-then-has_no_source-clause-schedule c =
    let none : c.args.placed.now.sources.rows ≡ [] = search rules in
    ap (with_rows c.args.placed.now) (none ∙ sym (ap (map (advanced_by c.args.message.now)) none))
