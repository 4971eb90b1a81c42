use Rattle.std.proofs.Common.{length, ap, ◌∙◌}
use Rattle.bc_machine.specs.Hosting.{queue_at}
use Rattle.bc_machine.specs.Running.{MachineState}
use Rattle.bc_machine.proofs.parts.Parts.queued.Goals as goal

pub returns : goal.returns
returns c = c.queued.ensures ∙ ap (λ (z : MachineState). length (queue_at (length z.made) z.placed z.made)) c.self.view_is
