use Rattle.std.proofs.Common.{◌≡◌, ℕ, List, Some, reverse}
use Rattle.ch11_stream.proofs.Readings.{IsAmid}
use Rattle.bench_stat.specs.Figures.{headers}
use Rattle.bench_stat.specs.Kinds.{AreKinds}
use Rattle.bench_stat.proofs.kinds.read_kinds.Given as goal

-- the packets so far are those of the file, and the figures theirs
abbrev pub invariant-packets : goal.invariant-packets
invariant-packets g l = record {
  known : (file : List ℕ) → g.R.Read.remaining l.fn.input ≡ Some file → IsAmid file l.packets;
  are : AreKinds (headers (reverse l.packets.earlier)) l.kinds.items;
}
