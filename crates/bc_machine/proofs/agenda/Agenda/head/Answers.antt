use Rattle.std.proofs.Common.{◌+◌, length, ap, subst, ◌∙◌, arith}
use Rattle.bc_machine.specs.Agendas.{AgendaState, IsCursor}
use Rattle.bc_machine.proofs.agenda.Agenda.head.Goals as goal

pub overflow_add-last : goal.overflow_add-last
overflow_add-last c = omega (arith, c.self.invariant.number, c.requires, ap (λ (s : AgendaState). length s.made) c.self.view_is)

pub head_from-requires-clause-cursor : goal.head_from-requires-clause-cursor
head_from-requires-clause-cursor c = subst (λ (s : AgendaState). IsCursor c.self.inside.cursor s.placed s.made) c.self.view_is c.self.invariant.cursor

pub head_from-requires-clause-last : goal.head_from-requires-clause-last
head_from-requires-clause-last c = ap (λ n. n + 1) c.self.invariant.number ∙ ap (λ (s : AgendaState). length s.made + 1) c.self.view_is

pub head_from-requires-clause-bound : goal.head_from-requires-clause-bound
head_from-requires-clause-bound c = omega (arith, c.self.invariant.number, c.requires, ap (λ (s : AgendaState). length s.made) c.self.view_is)
