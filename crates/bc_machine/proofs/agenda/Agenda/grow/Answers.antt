use Rattle.std.proofs.Common.{refl, ◌≡◌, ◌+◌, length, max, ap, subst, ◌∙◌, arith, rules}
use Rattle.std.specs.Prelude.{OnOk, OnErr}
use Rattle.std.proofs.lemmas.Result.{on_ok_weaker}
use Rattle.bc_machine.specs.declared.agenda.Agenda.TheInside.{Inside}
use Rattle.bc_machine.specs.Agendas.{AgendaState, agenda_in, with_capacity}
use Rattle.bc_machine.specs.Schedules.{ScheduleState}
use Rattle.bc_machine.proofs.Kept.{agenda_grown, agenda_same, room_made, room_same, no_more}
use Rattle.bc_machine.proofs.agenda.Agenda.grow.Goals as goal

pub returns-then-more-eq0-clause-made : goal.returns-then-more-eq0-clause-made
returns-then-more-eq0-clause-made c = no_more c.args.self.now c.args.more c.if-more-eq0.true (omega (arith, c.room_left-left.ensures))

pub invariant_of-self : goal.invariant_of-self
invariant_of-self c = agenda_same c.self.inside _ c.self.invariant c.in_err-make_ready.ensures.same refl refl refl refl refl

pub invariant_of-self-2 : goal.invariant_of-self-2
invariant_of-self-2 c =
    let made = c.in_ok-make_ready.ensures.ready in
    agenda_grown c.self.inside _ c.self.invariant (ap (λ (s : ScheduleState). s.actions) made) (ap (λ (s : ScheduleState). s.sources.rows) made) (ap (λ (s : ScheduleState). s.sources.ready) made)
    c.grow.ensures.actions refl refl refl refl

pub returns-clause-made : goal.returns-clause-made
returns-clause-made c =
    let a = c.self.inside in
    let made = c.in_ok-make_ready.ensures.ready in
    let most : c.in-Some.most ≡ length a.posted.actions + c.args.more = search rules in
    let b : Inside = record { placed = c.make_ready.new.self; posted = c.grow.new.self; made = a.made; number = a.number; inserted = a.inserted; cursor = a.cursor } in
    subst (λ (s : AgendaState). OnOk c.grow.result (agenda_in b ≡ with_capacity s (max s.capacity (length s.placed + c.args.more)))) c.self.view_is
    (room_made c.grow.result a b c.args.more (ap (λ (s : ScheduleState). s.actions) made) c.grow.ensures.actions refl
    (on_ok_weaker c.grow.result (λ e. e ∙ ap (max a.posted.capacity) most) c.grow.ensures.capacity))

pub returns-clause-same : goal.returns-clause-same
returns-clause-same c =
    let a = c.self.inside in
    let made = c.in_ok-make_ready.ensures.ready in
    let b : Inside = record { placed = c.make_ready.new.self; posted = c.grow.new.self; made = a.made; number = a.number; inserted = a.inserted; cursor = a.cursor } in
    subst (λ (s : AgendaState). OnErr c.grow.result (agenda_in b ≡ s)) c.self.view_is
    (room_same c.grow.result a b (ap (λ (s : ScheduleState). s.actions) made) c.grow.ensures.actions refl c.grow.ensures.same)
