use Rattle.bc_machine.proofs.Queued.{none_waits}
use Rattle.bc_machine.proofs.agenda.Agenda.insert.Goals as goal

pub returns-in_default-clause-agenda : goal.returns-in_default-clause-agenda
returns-in_default-clause-agenda c = absurd (none_waits _ c.in_default.ensures.none c.requires.waits)

pub returns-in_default-clause-bus : goal.returns-in_default-clause-bus
returns-in_default-clause-bus c = absurd (none_waits _ c.in_default.ensures.none c.requires.waits)
