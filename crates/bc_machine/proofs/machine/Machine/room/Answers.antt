use Rattle.bc_machine.proofs.Posted.{room_under_way}
use Rattle.bc_machine.proofs.machine.Machine.room.Goals as goal

pub invariant_of-self : goal.invariant_of-self
invariant_of-self c = room_under_way c.room.result c.self.inside.parts c.room.new.self _ c.self.invariant c.room.ensures.made c.room.ensures.same

pub returns-clause-under_way : goal.returns-clause-under_way
returns-clause-under_way c = invariant_of-self c
