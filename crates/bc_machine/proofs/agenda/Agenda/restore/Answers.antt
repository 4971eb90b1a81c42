use Rattle.std.proofs.Common.{refl, ◌<◌, length, ap, sym, subst, ◌∙◌}
use Rattle.controller_host.specs.Sources.{AreRows}
use Rattle.bc_machine.specs.Agendas.{AgendaState, IsSavedAgenda}
use Rattle.bc_machine.specs.Schedules.{ScheduleState}
use Rattle.bc_machine.proofs.Kept.{all_of, agenda_restored, saved_ready}
use Rattle.bc_machine.proofs.agenda.Agenda.restore.Goals as goal

pub restore_sources-requires-clause-rows : goal.restore_sources-requires-clause-rows
restore_sources-requires-clause-rows c = subst AreRows (sym c.as_slice.ensures.value) c.requires.rows

pub restore_sources-requires-clause-room : goal.restore_sources-requires-clause-room
restore_sources-requires-clause-room c some =
    let a = c.self.inside in
    let saved = subst (λ (s : AgendaState). IsSavedAgenda s.placed c.args.saved.now) (sym c.self.view_is) c.requires in
    saved_ready a.placed.sources.ready (all_of a) c.args.saved.now saved c.self.invariant.sets (subst (λ rs. 0 < length rs) c.as_slice.ensures.value some)

pub invariant_of-self : goal.invariant_of-self
invariant_of-self c =
    let a = c.self.inside in
    let saved = subst (λ (s : AgendaState). IsSavedAgenda s.placed c.args.saved.now) (sym c.self.view_is) c.requires in
    agenda_restored a _ c.args.saved.now c.self.invariant saved (ap (λ (s : ScheduleState). s.actions) c.restore_sources.ensures)
    (ap (λ (s : ScheduleState). s.sources.rows) c.restore_sources.ensures ∙ c.as_slice.ensures.value) (ap (λ (s : ScheduleState). s.sources.ready) c.restore_sources.ensures) refl c.same.ensures refl refl refl
