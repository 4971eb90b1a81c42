use Rattle.bc_machine.proofs.Next.{Laws, able}
use Rattle.bc_machine.proofs.machine.Machine.next_message.Goals as goal

pub next_message-requires : goal.next_message-requires
next_message-requires c =
    let e = c.loadable_runs.ensures in
    let laws : Laws = record { never_stuck = e.never_stuck; inside = e.inside; room = e.room; room_to_call = e.room_to_call; room_to_begin = e.room_to_begin; messages = e.messages; halts = e.halts; costs = e.costs } in
    able laws c.self.inside.parts c.self.invariant
