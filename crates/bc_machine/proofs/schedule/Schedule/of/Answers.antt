use Rattle.std.proofs.Common.{subst}
use Rattle.bc_machine.specs.Schedules.{HaveRoom}
use Rattle.bc_machine.proofs.schedule.Schedule.of.Goals as goal

pub returns-clause-sets : goal.returns-clause-sets
returns-clause-sets c = subst (λ b. HaveRoom b c.restore_sources.new.self.actions) c.is_ready-ready.ensures.value c.is_ready-ready.ensures.sets
