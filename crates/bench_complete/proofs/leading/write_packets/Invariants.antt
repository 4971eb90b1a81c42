use Rattle.std.proofs.Common.{◌≡◌, ℕ, List, Some, drop}
use Rattle.bench_complete.proofs.Front.{HasWritten}
use Rattle.bench_complete.proofs.leading.write_packets.Given as goal

-- the recording stays, and where its bytes are known, so far its packets were written
abbrev pub invariant-packets : goal.invariant-packets
invariant-packets g l = record {
  stays : l.original ≡ l.fn.original;
  written : (file : List ℕ) → l.fn.original ≡ Some file → HasWritten file l.packets (drop l.packet-index l.packets) (g.W.Write.contents l.fn.out) (g.W.Write.contents l.out);
}
