use Rattle.bc_machine.proofs.Next.{Laws, able, next_is, tells_is}
use Rattle.bc_machine.proofs.machine.Machine.step.Goals as goal

pub step-requires : goal.step-requires
step-requires c =
    let e = c.loadable_runs.ensures in
    let laws : Laws = record { never_stuck = e.never_stuck; inside = e.inside; room = e.room; room_to_call = e.room_to_call; room_to_begin = e.room_to_begin; messages = e.messages; halts = e.halts; costs = e.costs } in
    able laws c.self.inside.parts c.self.invariant

pub invariant_of-self : goal.invariant_of-self
invariant_of-self c =
    let e = c.loadable_runs.ensures in
    let laws : Laws = record { never_stuck = e.never_stuck; inside = e.inside; room = e.room; room_to_call = e.room_to_call; room_to_begin = e.room_to_begin; messages = e.messages; halts = e.halts; costs = e.costs } in
    next_is laws c.self.inside.parts c.step.new.self c.self.invariant c.step.ensures.value c.step.ensures.soon

pub returns-clause-tells : goal.returns-clause-tells
returns-clause-tells c =
    let e = c.loadable_runs.ensures in
    let laws : Laws = record { never_stuck = e.never_stuck; inside = e.inside; room = e.room; room_to_call = e.room_to_call; room_to_begin = e.room_to_begin; messages = e.messages; halts = e.halts; costs = e.costs } in
    tells_is laws c.self.inside.parts c.step.new.self c.args.self.now c.step.result c.self.invariant c.step.ensures.value c.step.ensures.answer c.self.view_is c.step.ensures.soon

pub returns-clause-under_way : goal.returns-clause-under_way
returns-clause-under_way c = invariant_of-self c
