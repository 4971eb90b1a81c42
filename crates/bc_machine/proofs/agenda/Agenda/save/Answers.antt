use Rattle.std.proofs.Common.{◌≡◌, refl, length, ap, subst, arith}
use Rattle.std.proofs.lemmas.List.{length-append}
use Rattle.controller_host.specs.Sources.{AreRows}
use Rattle.bc_machine.specs.Agendas.{AgendaState, IsSavedAgenda}
use Rattle.bc_machine.specs.declared.agenda.SavedAgenda.{SavedAgenda}
use Rattle.bc_machine.proofs.Kept.{agenda_saved}
use Rattle.bc_machine.proofs.agenda.Agenda.save.Goals as goal

placed_same : (s t : AgendaState) (x : SavedAgenda) → s ≡ t → IsSavedAgenda s.placed x → IsSavedAgenda t.placed x
placed_same s t x same is = subst (λ (z : AgendaState). IsSavedAgenda z.placed x) same is

pub returns-clause-saved : goal.returns-clause-saved
returns-clause-saved c =
    placed_same _ c.args.self.now _ c.self.view_is
    (agenda_saved c.self.inside _ c.self.invariant (subst AreRows c.in_ok-saved_sources.ensures.same c.in_ok-saved_sources.ensures.rows) c.in_ok-saved_sources.ensures.same c.same.ensures refl refl refl)

pub returns-clause-room : goal.returns-clause-room
returns-clause-room c =
    omega (
      arith,
      length-append c.self.inside.placed.actions c.self.inside.posted.actions,
      c.capacity.ensures.value,
      c.capacity.ensures.within,
      c.len.ensures.value,
      ap (λ (s : AgendaState). length s.placed) c.self.view_is,
      ap (λ (s : AgendaState). s.capacity) c.self.view_is,
    )
