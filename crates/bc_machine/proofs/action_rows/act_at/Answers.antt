use Rattle.std.proofs.Common.{◌∙◌, sym, ap}
use Rattle.std.proofs.lemmas.List.{drop_all}
use Rattle.bc_machine.specs.Controller.{ready, all_acted, placed_at}
use Rattle.bc_machine.specs.Rows.{all_placed}
use Rattle.bc_machine.proofs.action_rows.act_at.Goals as goal

pub returns-clause-bus : goal.returns-clause-bus
unfolding ready
returns-clause-bus c =
    let none = drop_all c.loop-row.row-index c.args.rows.now c.loop-row-test.false in
    sym (ap (λ v. all_acted c.loop-row.bus (placed_at c.args.number (all_placed c.args.beside.now.lists v))) none) ∙ c.loop-row.invariant.left
