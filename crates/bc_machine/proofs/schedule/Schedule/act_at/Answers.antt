use Rattle.std.proofs.Common.{ap, ◌∙◌}
use Rattle.bc_machine.specs.Controller.{ready}
use Rattle.bc_machine.specs.Rows.{all_placed, rows_at}
use Rattle.bc_machine.specs.Schedules.{ScheduleState}
use Rattle.bc_machine.proofs.Acts.{ready_same}
use Rattle.bc_machine.proofs.Around.{same_placed}
use Rattle.bc_machine.proofs.schedule.Schedule.act_at.Goals as goal

pub returns-clause-bus : goal.returns-clause-bus
returns-clause-bus c =
    let beside = c.self.inside.beside.lists in
    let n = c.args.number in
    let found = c.rows_of.result.now in
    c.act_at.ensures.bus
    ∙ ready_same n (all_placed beside found) (all_placed beside c.self.inside.rows.items) c.args.bus.now
    (same_placed n beside found c.self.inside.rows.items (c.rows_of.ensures.same ∙ ap (rows_at n) c.as_slice-rows.ensures.value))
    ∙ ap (λ (s : ScheduleState). ready s.actions n c.args.bus.now) c.self.view_is
