use Rattle.std.proofs.Common.{◌≡◌, ℕ, List, Some, reverse}
use Rattle.ch11_stream.proofs.Readings.{IsAmid}
use Rattle.bench_reproduce.specs.Readings.{messages_in}
use Rattle.bench_reproduce.proofs.hearing.hear.Given as goal

abbrev pub invariant-packets : goal.invariant-packets
invariant-packets g l = record {
  known : (file : List ℕ) → g.R.Read.remaining l.fn.input ≡ Some file → IsAmid file l.packets;
  heard : l.heard ≡ messages_in l.channel (reverse l.packets.earlier);
}
