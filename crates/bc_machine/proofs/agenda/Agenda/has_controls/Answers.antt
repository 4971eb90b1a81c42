use Rattle.std.proofs.Common.{sym, subst}
use Rattle.bc_machine.specs.Agendas.{AgendaState}
use Rattle.bc_machine.specs.Schedules.{MayControl}
use Rattle.bc_machine.proofs.Kept.{all_of}
use Rattle.bc_machine.proofs.Marks.{both_control}
use Rattle.bc_machine.proofs.agenda.Agenda.has_controls.Goals as goal

pub returns : goal.returns
returns c =
    subst (λ (s : AgendaState). MayControl c.one_of.result s.placed) c.self.view_is
    (subst (λ b. MayControl b (all_of c.self.inside)) (sym c.one_of.ensures)
    (both_control c.has_controls.result c.has_controls-2.result c.self.inside.placed.actions c.self.inside.posted.actions c.has_controls.ensures c.has_controls-2.ensures))
