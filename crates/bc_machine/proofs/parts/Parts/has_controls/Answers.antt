use Rattle.std.proofs.Common.{subst}
use Rattle.bc_machine.specs.Running.{MachineState}
use Rattle.bc_machine.specs.Schedules.{MayControl}
use Rattle.bc_machine.proofs.parts.Parts.has_controls.Goals as goal

pub returns : goal.returns
returns c = subst (λ (z : MachineState). MayControl c.has_controls.result z.placed) c.self.view_is c.has_controls.ensures
