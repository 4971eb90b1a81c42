use Rattle.std.proofs.Common.{false, ◌+◌, ◌++◌, ◌∷◌, [], length, ap, refl, ◌∙◌, sym, subst, arith}
use Rattle.bc_machine.specs.declared.agenda.Agenda.TheInside.{Inside}
use Rattle.bc_machine.specs.Agendas.{AgendaState, StandsForSources, with_message}
use Rattle.bc_machine.specs.Controller.{ready}
use Rattle.bc_machine.specs.Hosting.{source_at}
use Rattle.bc_machine.specs.MadeMessages.{own}
use Rattle.bc_machine.specs.Schedules.{ScheduleState, MayControl}
use Rattle.bc_machine.proofs.Carried.{none_set, stand_free}
use Rattle.bc_machine.proofs.Filled.{sourced_none}
use Rattle.bc_machine.proofs.Kept.{all_of, agenda_sent, message_made}
use Rattle.bc_machine.proofs.agenda.Agenda.send_as_is.Goals as goal

pub overflow_add-number : goal.overflow_add-number
overflow_add-number c = omega (arith, c.self.invariant.number, c.requires.bound, ap (λ (s : AgendaState). length s.made) c.self.view_is)

pub invariant_of-self : goal.invariant_of-self
invariant_of-self c =
    let a = c.self.inside in
    let near = c.draw_near.ensures in
    let free = subst (λ (s : AgendaState). MayControl false s.placed) (sym c.self.view_is) c.requires.free in
    agenda_sent a _ c.self.invariant (ap (λ (s : ScheduleState). s.actions) near) refl (ap (λ (s : ScheduleState). s.sources.ready) near) c.args.message.now
    (subst (λ (s : ScheduleState). StandsForSources s.sources.rows (all_of a) (a.made ++ own c.args.message.now ∷ [])) (sym near)
    (stand_free a.placed.sources.rows (all_of a) a.made (own c.args.message.now) free c.self.invariant.sources))
    c.and_own.ensures refl refl refl

pub returns-clause-message : goal.returns-clause-message
returns-clause-message c =
    let s = c.args.self.now in
    sourced_none (source_at (length s.made + 1) s.placed s.made) c.args.message.now (λ d place. none_set (length s.made + 1) s.placed s.made d place c.requires.free)

pub returns-clause-agenda : goal.returns-clause-agenda
returns-clause-agenda c =
    let a = c.self.inside in
    let b : Inside = record { placed = c.draw_near.new.self; posted = a.posted; made = c.and_own.result; number = a.number; inserted = a.inserted; cursor = a.cursor } in
    message_made a b (own c.args.message.now) (ap (λ (s : ScheduleState). s.actions) c.draw_near.ensures) refl c.and_own.ensures
    ∙ ap (λ (s : AgendaState). with_message s (own c.args.message.now)) c.self.view_is

pub returns-clause-bus : goal.returns-clause-bus
returns-clause-bus c =
    let a = c.self.inside in
    c.act_both.ensures.bus
    ∙ ap (λ (s : ScheduleState). ready (s.actions ++ a.posted.actions) (a.number + 1) c.args.bus.now) c.draw_near.ensures
    ∙ ap (λ k. ready (all_of a) (k + 1) c.args.bus.now) c.self.invariant.number
    ∙ ap (λ (s : AgendaState). ready s.placed (length s.made + 1) c.args.bus.now) c.self.view_is
