use Rattle.std.proofs.Common.{length, ap, arith}
use Rattle.std.proofs.lemmas.List.{length-append}
use Rattle.bc_machine.specs.Agendas.{AgendaState}
use Rattle.bc_machine.proofs.agenda.Agenda.room_left.Goals as goal

pub returns : goal.returns
returns c =
    omega (
      arith,
      length-append c.self.inside.placed.actions c.self.inside.posted.actions,
      c.capacity.ensures.value,
      c.capacity.ensures.within,
      c.len.ensures.value,
      ap (λ (s : AgendaState). length s.placed) c.self.view_is,
      ap (λ (s : AgendaState). s.capacity) c.self.view_is,
    )
