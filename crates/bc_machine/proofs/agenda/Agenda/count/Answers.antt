use Rattle.std.proofs.Common.{length, ap, arith}
use Rattle.std.proofs.lemmas.List.{length-append}
use Rattle.bc_machine.specs.Agendas.{AgendaState}
use Rattle.bc_machine.proofs.agenda.Agenda.count.Goals as goal

pub returns : goal.returns
returns c =
    let both = length-append c.self.inside.placed.actions c.self.inside.posted.actions in
    omega (arith, both, c.len.ensures.value, c.len-2.ensures.value, ap (λ (s : AgendaState). length s.placed) c.self.view_is)
