use Rattle.std.proofs.Common.{◌≡◌, ℕ, List, Some, reverse}
use Rattle.std.specs.Io.KnownBytes.{Appends}
use Rattle.std.specs.List.{flat_map}
use Rattle.ch11_reader.specs.Listing.{listing}
use Rattle.ch11_stream.proofs.Readings.{IsAmid}
use Rattle.bench_judge.specs.Lines.{packet_line}
use Rattle.bench_judge.specs.Packets.{packets_missed}
use Rattle.bench_judge.proofs.passes.write_packets.Given as goal

-- the packets so far are those of the file, and those of them that miss the rule are written
abbrev pub invariant-packets : goal.invariant-packets
invariant-packets g l = record {
  known : (file : List ℕ) → g.R.Read.remaining l.fn.input ≡ Some file → IsAmid file l.packets;
  written : Appends (g.W.Write.contents l.fn.out) (g.W.Write.contents l.out) (flat_map (packet_line l.skips l.rule.line) (packets_missed l.rule (listing (reverse l.packets.earlier))));
}
