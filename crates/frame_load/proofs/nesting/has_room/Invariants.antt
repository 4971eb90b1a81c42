use Rattle.frame_load.proofs.Paired.{Going}
use Rattle.frame_load.proofs.nesting.has_room.Given as goal

abbrev pub invariant-loop-op : goal.invariant-loop-op
invariant-loop-op l = Going l.kind l.operations l.op-index l.depth l.deepest l.routine l.ended
