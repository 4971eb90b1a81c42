use Rattle.std.proofs.Common.{ℕ, List}
use Rattle.std.specs.BinaryHeap.{IsHeap, heap_items}
use Rattle.bench_complete.specs.Lanes.{AreHeads, begun, head_cmp}
use Rattle.bench_complete.proofs.lanes.Lanes.heads.Given as goal

abbrev pub invariant-channels : goal.invariant-channels
invariant-channels l = record {
  heads : (file : List ℕ) → AreHeads file l.self.packets.now l.self.times (heap_items l.heads) (begun file l.self.packets.now l.self.times l.channel);
  heap : IsHeap head_cmp (heap_items l.heads);
}
