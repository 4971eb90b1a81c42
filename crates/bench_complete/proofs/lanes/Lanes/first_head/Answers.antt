use Rattle.std.proofs.Common.{List, subst}
use Rattle.std.specs.BinaryHeap.{heap_items}
use Rattle.bench_complete.specs.declared.head.Head.{Head}
use Rattle.bench_complete.specs.Lanes.{Pushes}
use Rattle.bench_complete.proofs.Standing.{time_heads}
use Rattle.bench_complete.proofs.lanes.Lanes.first_head.Goals as goal

pub returns-clause-heads : goal.returns-clause-heads
returns-clause-heads c = λ file.
    time_heads file c.args.self.now.packets.now c.args.self.now.times c.timed.result (heap_items c.push_some.new.heads) c.timed.ensures
    (subst (λ (old : List Head). Pushes c.timed.result old (heap_items c.push_some.new.heads)) c.new-heads.ensures.items c.in_ok-push_some.ensures.pushed)
