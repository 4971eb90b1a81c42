use Rattle.std.proofs.Common.{refl, ◌+◌, length, ap, sym, ◌∙◌}
use Rattle.bc_machine.specs.Agendas.{AgendaState}
use Rattle.bc_machine.proofs.Kept.{added_or_same}
use Rattle.bc_machine.proofs.agenda.Agenda.add.Goals as goal

pub invariant_of-self : goal.invariant_of-self
invariant_of-self c =
    added_or_same c.add.result c.self.inside _ c.args.one c.self.invariant (c.requires ∙ sym (ap (λ (s : AgendaState). length s.made + 1) c.self.view_is))
    refl c.add.ensures.added c.add.ensures.there c.add.ensures.same c.add.ensures.capacity refl refl refl refl
