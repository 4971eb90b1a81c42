use Rattle.std.proofs.Common.{refl, ◌≡◌, ◌+◌, length, max, ap, subst}
use Rattle.std.specs.Prelude.{OnOk, OnErr}
use Rattle.bc_machine.specs.declared.agenda.Agenda.TheInside.{Inside}
use Rattle.bc_machine.specs.Agendas.{AgendaState, agenda_in, with_capacity}
use Rattle.bc_machine.specs.Schedules.{ScheduleState}
use Rattle.bc_machine.proofs.Kept.{agenda_grown, agenda_same, room_made, room_same}
use Rattle.bc_machine.proofs.agenda.Agenda.room.Goals as goal

pub invariant_of-self : goal.invariant_of-self
invariant_of-self c = agenda_same c.self.inside _ c.self.invariant c.in_err-make_ready.ensures.same refl refl refl refl refl

pub invariant_of-self-2 : goal.invariant_of-self-2
invariant_of-self-2 c =
    let made = c.in_ok-make_ready.ensures.ready in
    agenda_grown c.self.inside _ c.self.invariant (ap (λ (s : ScheduleState). s.actions) made) (ap (λ (s : ScheduleState). s.sources.rows) made) (ap (λ (s : ScheduleState). s.sources.ready) made)
    c.room.ensures.actions refl refl refl refl

pub returns-clause-made : goal.returns-clause-made
returns-clause-made c =
    let a = c.self.inside in
    let made = c.in_ok-make_ready.ensures.ready in
    let b : Inside = record { placed = c.make_ready.new.self; posted = c.room.new.self; made = a.made; number = a.number; inserted = a.inserted; cursor = a.cursor } in
    subst (λ (s : AgendaState). OnOk c.room.result (agenda_in b ≡ with_capacity s (max s.capacity (length s.placed + c.args.count)))) c.self.view_is
    (room_made c.room.result a b c.args.count (ap (λ (s : ScheduleState). s.actions) made) c.room.ensures.actions refl c.room.ensures.capacity)

pub returns-clause-same : goal.returns-clause-same
returns-clause-same c =
    let a = c.self.inside in
    let made = c.in_ok-make_ready.ensures.ready in
    let b : Inside = record { placed = c.make_ready.new.self; posted = c.room.new.self; made = a.made; number = a.number; inserted = a.inserted; cursor = a.cursor } in
    subst (λ (s : AgendaState). OnErr c.room.result (agenda_in b ≡ s)) c.self.view_is
    (room_same c.room.result a b (ap (λ (s : ScheduleState). s.actions) made) c.room.ensures.actions refl c.room.ensures.same)
