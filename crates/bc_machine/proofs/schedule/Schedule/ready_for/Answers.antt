use Rattle.std.proofs.Common.{sym, ap, ◌∙◌}
use Rattle.std.proofs.lemmas.Result.{on_ok_weaker}
use Rattle.bc_machine.specs.Schedules.{ScheduleState}
use Rattle.bc_machine.proofs.Marks.{acts_stay}
use Rattle.bc_machine.proofs.schedule.Schedule.ready_for.Goals as goal

pub returns-then-sets_sources-clause-actions : goal.returns-then-sets_sources-clause-actions
returns-then-sets_sources-clause-actions c = acts_stay c.make_ready.result c.args.self.now c.make_ready.new.self c.make_ready.ensures.ready c.make_ready.ensures.same

pub returns-then-sets_sources-clause-ready : goal.returns-then-sets_sources-clause-ready
returns-then-sets_sources-clause-ready c = on_ok_weaker c.make_ready.result (λ e sets. ap (λ (s : ScheduleState). s.sources.ready) e) c.make_ready.ensures.ready

pub returns-clause-ready : goal.returns-clause-ready
returns-clause-ready c sets = absurd (let no = sym sets ∙ sym c.sets_sources.ensures ∙ c.if-sets_sources.false in cc)
