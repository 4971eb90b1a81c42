use Rattle.std.proofs.Common.{◌+◌, length, ap, refl, ◌∙◌, arith}
use Rattle.bc_machine.specs.declared.agenda.Agenda.TheInside.{Inside}
use Rattle.bc_machine.specs.Agendas.{AgendaState, with_message}
use Rattle.bc_machine.specs.Asking.{controls_at, with_controls}
use Rattle.bc_machine.specs.Controller.{ready}
use Rattle.bc_machine.specs.Hosting.{source_at, sent_form}
use Rattle.bc_machine.specs.MadeMessages.{own}
use Rattle.bc_machine.specs.Schedules.{ScheduleState}
use Rattle.controller_host.specs.Sources.{source_in}
use Rattle.bc_machine.proofs.Carried.{next_rows}
use Rattle.bc_machine.proofs.Filled.{sourced_same}
use Rattle.bc_machine.proofs.Kept.{all_of, agenda_own, message_made}
use Rattle.bc_machine.proofs.agenda.Agenda.send.Goals as goal

pub meet-requires : goal.meet-requires
meet-requires c = c.self.invariant.sets

pub overflow_add-number : goal.overflow_add-number
overflow_add-number c = omega (arith, c.self.invariant.number, c.requires, ap (λ (s : AgendaState). length s.made) c.self.view_is)

pub invariant_of-self : goal.invariant_of-self
invariant_of-self c =
    let a = c.self.inside in
    agenda_own a _ c.self.invariant (ap (λ (s : ScheduleState). s.actions) c.carried.ensures.schedule ∙ c.meet.ensures.same.0) refl
    (ap (λ (s : ScheduleState). s.sources.ready) c.carried.ensures.schedule ∙ c.meet.ensures.same.2)
    c.args.message.now c.meet.new.placed.sources.rows
    (λ d place is. c.meet.ensures.sources d place is ∙ ap (λ k. with_controls (controls_at (k + 1) (all_of a)) (source_in a.placed.sources.rows d place) d place) c.self.invariant.number)
    (ap (λ (s : ScheduleState). s.sources.rows) c.carried.ensures.schedule)
    c.and_own.ensures refl refl refl

pub returns-clause-message : goal.returns-clause-message
returns-clause-message c =
    let a = c.self.inside in
    let n = length a.made + 1 in
    c.carried.ensures.message
    ∙ sourced_same (source_in c.meet.new.placed.sources.rows) (source_at n (all_of a) a.made) c.args.message.now c.form-form.ensures.lawful
    (next_rows (all_of a) a.made a.placed.sources.rows c.meet.new.placed.sources.rows c.self.invariant.sources
    (λ d place is. c.meet.ensures.sources d place is ∙ ap (λ k. with_controls (controls_at (k + 1) (all_of a)) (source_in a.placed.sources.rows d place) d place) c.self.invariant.number))
    ∙ ap (λ (s : AgendaState). sent_form s.placed s.made c.args.message.now) c.self.view_is

pub returns-clause-agenda : goal.returns-clause-agenda
returns-clause-agenda c =
    let a = c.self.inside in
    let b : Inside = record { placed = c.carried.new.placed; posted = a.posted; made = c.and_own.result; number = a.number; inserted = a.inserted; cursor = a.cursor } in
    message_made a b (own c.args.message.now) (ap (λ (s : ScheduleState). s.actions) c.carried.ensures.schedule ∙ c.meet.ensures.same.0) refl
    c.and_own.ensures
    ∙ ap (λ (s : AgendaState). with_message s (own c.args.message.now)) c.self.view_is

pub returns-clause-bus : goal.returns-clause-bus
returns-clause-bus c =
    let a = c.self.inside in
    c.meet.ensures.bus
    ∙ ap (λ k. ready (all_of a) (k + 1) c.args.bus.now) c.self.invariant.number
    ∙ ap (λ (s : AgendaState). ready s.placed (length s.made + 1) c.args.bus.now) c.self.view_is
