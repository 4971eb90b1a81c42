use Rattle.std.proofs.Common.{◌≡◌, ℕ, List, Some}
use Rattle.ch11_stream.proofs.Readings.{IsAmid}
use Rattle.bench_decode.proofs.Recordings.{ArePrinted}
use Rattle.bench_decode.proofs.streaming.decode_packets.Given as goal

-- the packets so far are those of the file, and were printed
abbrev pub invariant-packets : goal.invariant-packets
invariant-packets g l = record {
  known : (file : List ℕ) → g.R.Read.remaining l.fn.input ≡ Some file → IsAmid file l.packets;
  printed : ArePrinted l.output l.packets.earlier (g.W.Write.contents l.fn.out) (g.W.Write.contents l.out) l.printing;
}
