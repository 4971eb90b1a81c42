use Rattle.std.proofs.Common.{ap, sym, subst, ◌∙◌}
use Rattle.std.specs.List.{filter_map}
use Rattle.bc_machine.specs.Asking.{filled_by}
use Rattle.bc_machine.specs.Controller.{control_of}
use Rattle.bc_machine.specs.Schedules.{MayControl}
use Rattle.bc_machine.proofs.Asked.{no_controls}
use Rattle.bc_machine.proofs.schedule.Schedule.fill_at.Goals as goal

pub returns-then-not-has_controls : goal.returns-then-not-has_controls
returns-then-not-has_controls c =
    let acts = c.args.self.now.actions in
    sym (ap (λ cs. filled_by cs c.args.sent.now) (no_controls c.args.number acts (subst (λ b. MayControl b acts) c.if-not-has_controls.true c.has_controls.ensures)))

pub returns : goal.returns
returns c = c.fill_among.ensures ∙ ap (λ ps. filled_by (filter_map control_of ps) c.args.sent.now) c.rows_at.ensures.same
