use Rattle.std.proofs.Common.{max, ap, ap₂, ◌∙◌}
use Rattle.bc_machine.specs.Controller.{insertion_talk}
use Rattle.bc_machine.specs.NextMessage.{in_advance}
use Rattle.bc_machine.specs.PlainMachine.{state_in}
use Rattle.bc_machine.specs.Running.{MachineState, setting, bus_run}
use Rattle.bc_machine.proofs.Ahead.{told_inserted}
use Rattle.bc_machine.proofs.parts.Parts.next_of_host.Goals as goal

pub returns-clause-value : goal.returns-clause-value
returns-clause-value c =
    told_inserted (state_in c.self.inside) c.args.insertion.now c.max.result c.copy.result
    (c.max.ensures ∙ ap₂ max c.next_start-start.ensures.value c.tick.ensures.value)
    (c.copy.ensures ∙ c.message.ensures.value)
    ∙ ap (λ (z : MachineState). in_advance (insertion_talk (setting z) z.point.gap c.args.insertion.now (bus_run z))) c.self.view_is
