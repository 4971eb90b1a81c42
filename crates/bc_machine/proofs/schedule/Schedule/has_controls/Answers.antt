use Rattle.std.proofs.Common.{subst}
use Rattle.bc_machine.specs.Schedules.{ScheduleState, MayControl}
use Rattle.bc_machine.proofs.schedule.Schedule.has_controls.Goals as goal

pub returns : goal.returns
returns c = subst (λ (s : ScheduleState). MayControl c.self.inside.controls s.actions) c.self.view_is c.self.invariant.controls
