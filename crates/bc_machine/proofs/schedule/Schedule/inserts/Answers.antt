use Rattle.std.proofs.Common.{List, length, ap, sym, subst, ◌∙◌}
use Rattle.bc_machine.specs.declared.action_rows.Row.{Row}
use Rattle.bc_machine.specs.Agendas.{inserts_among}
use Rattle.bc_machine.specs.Rows.{all_placed}
use Rattle.bc_machine.specs.Schedules.{ScheduleState, MayControl}
use Rattle.bc_machine.proofs.Queued.{no_inserts}
use Rattle.bc_machine.proofs.schedule.Schedule.inserts.Goals as goal

pub returns-then-not-has_controls : goal.returns-then-not-has_controls
returns-then-not-has_controls c =
    let acts = c.args.self.now.actions in
    sym (ap length (no_inserts acts (subst (λ b. MayControl b acts) c.if-not-has_controls.true c.has_controls.ensures)))

pub returns : goal.returns
returns c =
    c.inserts_in.ensures
    ∙ ap (λ (rs : List Row). length (inserts_among (all_placed c.self.inside.beside.lists rs))) c.as_slice.ensures.value
    ∙ ap (λ (s : ScheduleState). length (inserts_among s.actions)) c.self.view_is
