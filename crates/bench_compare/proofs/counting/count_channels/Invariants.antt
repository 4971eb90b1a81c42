use Rattle.std.proofs.Common.{◌≡◌, ℕ, List, Some, reverse, vec_len}
use Rattle.ch11_stream.proofs.Readings.{IsAmid}
use Rattle.bench_compare.specs.Counting.{AreCounts}
use Rattle.bench_compare.proofs.counting.count_channels.Given as goal

abbrev pub invariant-packets : goal.invariant-packets
invariant-packets g l = record {
  known : (file : List ℕ) → g.R.Read.remaining l.fn.input ≡ Some file → IsAmid file l.packets;
  len : vec_len l.counts ≡ 65536;
  counts : AreCounts l.selection (reverse l.packets.earlier) l.counts.items;
}
