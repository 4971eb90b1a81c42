use Rattle.std.proofs.Common.{refl}
use Rattle.bc_machine.specs.declared.agenda.Agenda.TheInside.{Inside}
use Rattle.bc_machine.proofs.Kept.{agenda_begins, begun_is}
use Rattle.bc_machine.proofs.agenda.Agenda.begin.Goals as goal

pub invariant_of-result : goal.invariant_of-result
invariant_of-result c = agenda_begins _ c.of-placed.ensures.sources c.of-placed.ensures.sets c.none-posted.ensures.actions c.none-posted.ensures.capacity c.none.ensures refl refl refl

pub returns : goal.returns
returns c =
    let b : Inside = record { placed = c.of-placed.result; posted = c.none-posted.result; made = c.none.result; number = 0; inserted = 0; cursor = record { number = 1; passed = 0 } } in
    begun_is b c.args.placed c.of-placed.ensures.actions c.none-posted.ensures.actions c.none-posted.ensures.capacity c.none.ensures
