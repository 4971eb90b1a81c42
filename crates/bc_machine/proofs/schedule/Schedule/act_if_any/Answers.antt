use Rattle.std.proofs.Common.{sym, ◌∙◌}
use Rattle.bc_machine.proofs.Acts.{ready_none}
use Rattle.bc_machine.proofs.schedule.Schedule.act_if_any.Goals as goal

pub returns-then-len-eq0-clause-bus : goal.returns-then-len-eq0-clause-bus
returns-then-len-eq0-clause-bus c = ready_none c.args.number c.args.self.now.actions c.args.bus.now (sym c.len.ensures.value ∙ c.if-len-eq0.true)
