use Rattle.std.proofs.Common.{◌≡◌, ◌+◌, [], length, refl, sym, ap, subst, arith}
use Rattle.bc_machine.specs.Agendas.{AgendaState, IsCursor}
use Rattle.bc_machine.specs.Hosting.{queue_at}
use Rattle.bc_machine.proofs.Kept.{all_of, agenda_moved}
use Rattle.bc_machine.proofs.Queued.{cursor_passes}
use Rattle.bc_machine.proofs.agenda.Agenda.pass_by.Goals as goal

pub overflow_add-number : goal.overflow_add-number
overflow_add-number c = omega (arith, c.self.invariant.number, c.requires.bound, ap (λ (s : AgendaState). length s.made) c.self.view_is)

pub invariant_of-self : goal.invariant_of-self
invariant_of-self c =
    let a = c.self.inside in
    let none = subst (λ (s : AgendaState). queue_at (length s.made + 1) s.placed s.made ≡ []) (sym c.self.view_is) c.requires.none in
    agenda_moved a _ c.self.invariant refl refl refl refl refl
    (subst (λ k. IsCursor (record { number = k + 1; passed = 0 }) (all_of a) a.made) (sym c.self.invariant.number)
    (cursor_passes a.cursor (all_of a) a.made c.self.invariant.cursor (omega (arith, c.self.invariant.number)) none))
