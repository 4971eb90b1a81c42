use Rattle.std.proofs.Common.{◌≡◌, ℕ, List, sum_by}
use Rattle.std.specs.BinaryHeap.{heap_items}
use Rattle.bench_complete.specs.Lanes.{steps}
use Rattle.bench_complete.proofs.Running.{IsMerging}
use Rattle.bench_complete.proofs.merge.merge.Given as goal

-- the recording stays, and whatever its bytes are, so far its packets were merged
abbrev pub invariant-packets : goal.invariant-packets
invariant-packets g l = record {
  stays : l.original ≡ l.fn.original;
  merging : (file : List ℕ) → IsMerging file l.lanes.packets.now l.lanes.times l.fn.original (heap_items l.heads) (g.W.Write.contents l.fn.out) (g.W.Write.contents l.out);
}

abbrev pub decreases-packets : goal.decreases-packets
decreases-packets g l = sum_by (steps l.lanes.packets.now l.lanes.times) (heap_items l.heads)
