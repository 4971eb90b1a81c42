use Rattle.std.proofs.Common.{ap, ◌∙◌}
use Rattle.bc_machine.specs.Controller.{ready}
use Rattle.bc_machine.proofs.Posted.{ready_both}
use Rattle.bc_machine.proofs.schedule.act_both.Goals as goal

pub returns-clause-bus : goal.returns-clause-bus
returns-clause-bus c =
    c.act_if_any-2.ensures.bus
    ∙ ap (ready c.args.posted.now.actions c.args.number) c.act_if_any.ensures.bus
    ∙ ready_both c.args.number c.args.placed.now.actions c.args.posted.now.actions c.args.bus.now
