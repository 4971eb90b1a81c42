use Rattle.std.proofs.Common.{◌≡◌, ℕ, List, Some, length}
use Rattle.bench_cut.proofs.Streamed.{IsCutting}
use Rattle.bench_cut.proofs.cutting.cut.Given as goal

-- there is a loss for each channel, and what is known of the packets so far was written
abbrev pub invariant-packets : goal.invariant-packets
invariant-packets g l = record {
  channels : length l.losses.items ≡ 65536;
  cutting : (file : List ℕ) → g.R.Read.remaining l.fn.input ≡ Some file → IsCutting l.selection file (g.W.Write.contents l.fn.out) (g.W.Write.contents l.out) l.losses.items l.selected l.packets;
}
