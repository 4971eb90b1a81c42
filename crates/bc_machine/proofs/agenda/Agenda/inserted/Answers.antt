use Rattle.std.proofs.Common.{ap, ◌∙◌}
use Rattle.bc_machine.specs.Agendas.{AgendaState}
use Rattle.bc_machine.specs.Hosting.{inserted_in}
use Rattle.bc_machine.proofs.agenda.Agenda.inserted.Goals as goal

pub returns : goal.returns
returns c = c.self.invariant.inserted ∙ ap (λ (s : AgendaState). inserted_in s.made) c.self.view_is
