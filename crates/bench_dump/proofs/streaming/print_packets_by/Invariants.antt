use Rattle.std.proofs.Common.{◌≡◌, ℕ, List, Some}
use Rattle.ch11_stream.proofs.Readings.{IsAmid}
use Rattle.bench_dump.proofs.Streamed.{IsPut}
use Rattle.bench_dump.proofs.streaming.print_packets_by.Given as goal

abbrev pub invariant-packets : goal.invariant-packets
invariant-packets g l = record {
  known : (file : List ℕ) → g.R.Read.remaining l.fn.input ≡ Some file → IsAmid file l.packets;
  put : IsPut l.clock l.timed (g.W.Write.contents l.fn.out) (g.W.Write.contents l.out) l.text l.packets.earlier;
}
