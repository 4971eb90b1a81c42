use Rattle.std.proofs.Common.{◌≡◌, ℕ, List, Some, reverse}
use Rattle.ch11_stream.proofs.Readings.{IsAmid}
use Rattle.bench_select.specs.Stamps.{AreStamps}
use Rattle.bench_select.proofs.stamps.read_stamps.Given as goal

-- the packets so far are those of the file, and the stamps theirs
abbrev pub invariant-packets : goal.invariant-packets
invariant-packets g l = record {
  known : (file : List ℕ) → g.R.Read.remaining l.fn.input ≡ Some file → IsAmid file l.packets;
  are : AreStamps (reverse l.packets.earlier) l.stamps;
}
