use Rattle.bc_machine.proofs.Next.{Laws, able}
use Rattle.bc_machine.proofs.Ahead.{makes}
use Rattle.bc_machine.proofs.laws.next_message_is_sent.Goals as goal

pub returns : goal.returns
returns c m way =
    let e = c.loadable_runs.ensures in
    let laws : Laws = record { never_stuck = e.never_stuck; inside = e.inside; room = e.room; room_to_call = e.room_to_call; room_to_begin = e.room_to_begin; messages = e.messages; halts = e.halts; costs = e.costs } in
    makes m (able laws m way)
