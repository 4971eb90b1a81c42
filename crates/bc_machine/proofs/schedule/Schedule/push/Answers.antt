use Rattle.std.proofs.Common.{List, ◌++◌, ◌∷◌, [], ap, ◌∙◌}
use Rattle.std.proofs.lemmas.Result.{on_ok_weaker, on_err_weaker}
use Rattle.bc_machine.specs.declared.placed.Placed.{Placed}
use Rattle.bc_machine.specs.Schedules.{ScheduleState}
use Rattle.bc_machine.proofs.schedule.Schedule.push.Goals as goal

pub returns-then-len-capacity-clause-pushed : goal.returns-then-len-capacity-clause-pushed
returns-then-len-capacity-clause-pushed c =
    ap (λ (s : ScheduleState). s.actions) c.put_behind.ensures ∙ ap (λ (ps : List Placed). ps ++ c.args.one ∷ []) c.ready_for.ensures.actions

pub returns-clause-pushed : goal.returns-clause-pushed
returns-clause-pushed c =
    on_ok_weaker c.push_new.result (λ e. e ∙ ap (λ (ps : List Placed). ps ++ c.args.one ∷ []) c.ready_for.ensures.actions) c.push_new.ensures.pushed

pub returns-clause-same : goal.returns-clause-same
returns-clause-same c = on_err_weaker c.push_new.result (λ e. ap (λ (s : ScheduleState). s.actions) e ∙ c.ready_for.ensures.actions) c.push_new.ensures.same
