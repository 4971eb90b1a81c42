use Rattle.std.proofs.Common.{◌≡◌, ℕ, List, Some, reverse}
use Rattle.ch11_stream.proofs.Readings.{IsAmid}
use Rattle.bench_stat.specs.Streaming.{AreTalliesOf}
use Rattle.bench_stat.proofs.streaming.stat.Given as goal

-- the packets so far are those of the file, and their messages are counted
abbrev pub invariant-packets : goal.invariant-packets
invariant-packets g l = record {
  known : (file : List ℕ) → g.R.Read.remaining l.fn.input ≡ Some file → IsAmid file l.packets;
  counted : (file : List ℕ) → g.R.Read.remaining l.fn.input ≡ Some file → AreTalliesOf l.selection (reverse l.packets.earlier) l.so_far;
}
