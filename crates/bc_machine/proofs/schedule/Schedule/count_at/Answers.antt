use Rattle.std.proofs.Common.{length, ap, sym, ◌∙◌}
use Rattle.std.proofs.lemmas.List.{length-map}
use Rattle.bc_machine.specs.Rows.{placed_of, rows_at}
use Rattle.bc_machine.proofs.Around.{placed_at_rows}
use Rattle.bc_machine.proofs.schedule.Schedule.count_at.Goals as goal

pub returns : goal.returns
returns c =
    let rows = c.rows_at.result.0.now in
    let beside = c.rows_at.result.1.now.lists in
    let n = c.args.number in
    c.count_among.ensures
    ∙ sym (length-map (rows_at n rows) (placed_of beside))
    ∙ ap length (sym (placed_at_rows n beside rows) ∙ c.rows_at.ensures.same)
