use Rattle.std.proofs.Common.{refl, ◌≡◌, ◌+◌, length, min, ap, ◌∙◌, arith}
use Rattle.std.proofs.lemmas.List.{length-append}
use Rattle.bc_machine.specs.declared.agenda.Agenda.TheInside.{Inside}
use Rattle.bc_machine.specs.Agendas.{AgendaState, with_capacity}
use Rattle.bc_machine.proofs.Kept.{agenda_room, less_room, no_less}
use Rattle.bc_machine.proofs.agenda.Agenda.shrink.Goals as goal

pub returns-then-left-more : goal.returns-then-left-more
returns-then-left-more c = no_less c.args.self.now c.room_left-left.result c.args.more c.room_left-left.ensures c.if-left-more.true

pub overflow_add-most : goal.overflow_add-most
overflow_add-most c =
    let a = c.self.inside in
    omega (
      arith,
      length-append a.placed.actions a.posted.actions,
      c.room_left-left.ensures,
      c.capacity-room.ensures.value,
      ap (λ (s : AgendaState). length s.placed) c.self.view_is,
      ap (λ (s : AgendaState). s.capacity) c.self.view_is,
    )

pub invariant_of-self : goal.invariant_of-self
invariant_of-self c =
    let a = c.self.inside in
    agenda_room a _ c.self.invariant refl refl refl c.shrink.ensures.actions
    (λ less. c.self.invariant.ready (omega (arith, less, ap length c.shrink.ensures.actions, c.shrink.ensures.capacity))) refl refl refl refl

pub returns : goal.returns
returns c =
    let a = c.self.inside in
    let b : Inside = record { placed = a.placed; posted = c.shrink.new.self; made = a.made; number = a.number; inserted = a.inserted; cursor = a.cursor } in
    let room : c.shrink.new.self.capacity ≡ min a.posted.capacity (length a.posted.actions + c.args.more) = omega (arith, c.shrink.ensures.capacity) in
    less_room a b c.args.more refl c.shrink.ensures.actions refl room
    ∙ ap (λ (s : AgendaState). with_capacity s (min s.capacity (length s.placed + c.args.more))) c.self.view_is
