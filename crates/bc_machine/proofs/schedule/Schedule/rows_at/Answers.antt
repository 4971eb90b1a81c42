use Rattle.std.proofs.Common.{ap, sym, ◌∙◌}
use Rattle.bc_machine.specs.Hosting.{placed_at}
use Rattle.bc_machine.specs.Rows.{rows_at}
use Rattle.bc_machine.specs.Schedules.{ScheduleState}
use Rattle.bc_machine.proofs.Around.{same_placed}
use Rattle.bc_machine.proofs.schedule.Schedule.rows_at.Goals as goal

pub returns-clause-same : goal.returns-clause-same
returns-clause-same c =
    let beside = c.self.inside.beside.lists in
    let n = c.args.number in
    let found = c.rows_of.result.now in
    same_placed n beside found c.self.inside.rows.items (c.rows_of.ensures.same ∙ ap (rows_at n) c.as_slice-rows.ensures.value)
    ∙ ap (λ (s : ScheduleState). placed_at n s.actions) c.self.view_is

pub returns-clause-alone : goal.returns-clause-alone
returns-clause-alone c is = c.rows_of.ensures.alone (sym c.finds_alone.ensures ∙ is)
