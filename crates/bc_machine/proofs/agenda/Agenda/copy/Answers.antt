use Rattle.std.proofs.Common.{refl, ap, ◌∙◌}
use Rattle.bc_machine.specs.declared.agenda.Agenda.TheInside.{Inside}
use Rattle.bc_machine.specs.Schedules.{ScheduleState}
use Rattle.bc_machine.proofs.Kept.{agenda_same, seen_same}
use Rattle.bc_machine.proofs.agenda.Agenda.copy.Goals as goal

pub invariant_of-result : goal.invariant_of-result
invariant_of-result c = agenda_same c.self.inside _ c.self.invariant c.in_ok-copy.ensures c.in_ok-copy-2.ensures c.same.ensures refl refl refl

pub returns : goal.returns
returns c =
    let a = c.self.inside in
    let b : Inside = record { placed = c.in_ok-copy.field-0; posted = c.in_ok-copy-2.field-0; made = c.same.result; number = a.number; inserted = a.inserted; cursor = a.cursor } in
    seen_same a b (ap (λ (s : ScheduleState). s.actions) c.in_ok-copy.ensures) (ap (λ (s : ScheduleState). s.actions) c.in_ok-copy-2.ensures) (ap (λ (s : ScheduleState). s.capacity) c.in_ok-copy-2.ensures) c.same.ensures
    ∙ c.self.view_is
