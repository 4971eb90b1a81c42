use Rattle.std.proofs.Common.{subst}
use Rattle.bc_machine.specs.Agendas.{StandsForSources}
use Rattle.bc_machine.specs.Running.{MachineState}
use Rattle.bc_machine.proofs.parts.Parts.sources.Goals as goal

pub returns : goal.returns
returns c = subst (λ (z : MachineState). StandsForSources c.sources.result.now.rows z.placed z.made) c.self.view_is c.sources.ensures
