use Rattle.std.proofs.Common.{◌+◌, length, ap, sym, subst, refl, ◌∙◌, arith}
use Rattle.bc_machine.specs.declared.agenda.Agenda.TheInside.{Inside}
use Rattle.bc_machine.specs.Agendas.{AgendaState, IsHead, with_message}
use Rattle.bc_machine.specs.Asking.{controls_at, with_controls}
use Rattle.bc_machine.specs.Controller.{ready}
use Rattle.bc_machine.specs.MadeMessages.{inserted}
use Rattle.controller_host.specs.Sources.{source_in}
use Rattle.bc_machine.proofs.Kept.{all_of, agenda_inserted, message_made, head_within}
use Rattle.bc_machine.proofs.agenda.Agenda.insert_head.Goals as goal

pub meet-requires : goal.meet-requires
meet-requires c = c.self.invariant.sets

pub overflow_add-number : goal.overflow_add-number
overflow_add-number c = omega (arith, c.self.invariant.number, c.requires.bound, ap (λ (s : AgendaState). length s.made) c.self.view_is)

pub overflow_add-self-2 : goal.overflow_add-self-2
overflow_add-self-2 c = omega (arith, head_within c.args.self.now c.args.head c.requires.head, c.count-count.ensures)

pub invariant_of-self : goal.invariant_of-self
invariant_of-self c =
    let a = c.self.inside in
    agenda_inserted a _ c.self.invariant c.meet.ensures.same.0 refl c.meet.ensures.same.2 c.args.head
    (subst (λ (s : AgendaState). IsHead c.args.head s.placed s.made) (sym c.self.view_is) c.requires.head)
    (λ d place is. c.meet.ensures.sources d place is ∙ ap (λ k. with_controls (controls_at (k + 1) (all_of a)) (source_in a.placed.sources.rows d place) d place) c.self.invariant.number)
    c.and_inserted.ensures refl refl refl

pub returns-clause-agenda : goal.returns-clause-agenda
returns-clause-agenda c =
    let a = c.self.inside in
    let b : Inside = record { placed = c.meet.new.placed; posted = a.posted; made = c.and_inserted.result; number = a.number; inserted = a.inserted; cursor = a.cursor } in
    message_made a b inserted c.meet.ensures.same.0 refl c.and_inserted.ensures
    ∙ ap (λ (s : AgendaState). with_message s inserted) c.self.view_is

pub returns-clause-bus : goal.returns-clause-bus
returns-clause-bus c =
    let a = c.self.inside in
    c.meet.ensures.bus
    ∙ ap (λ k. ready (all_of a) (k + 1) c.args.bus.now) c.self.invariant.number
    ∙ ap (λ (s : AgendaState). ready s.placed (length s.made + 1) c.args.bus.now) c.self.view_is
