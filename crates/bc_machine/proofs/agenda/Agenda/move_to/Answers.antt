use Rattle.std.proofs.Common.{refl, sym, subst}
use Rattle.bc_machine.specs.Agendas.{AgendaState, IsHead}
use Rattle.bc_machine.proofs.Kept.{agenda_moved}
use Rattle.bc_machine.proofs.agenda.Agenda.move_to.Goals as goal

pub invariant_of-self : goal.invariant_of-self
invariant_of-self c =
    let there = subst (λ (s : AgendaState). IsHead c.args.head s.placed s.made) (sym c.self.view_is) c.requires in
    agenda_moved c.self.inside _ c.self.invariant refl refl refl refl refl there.cursor
