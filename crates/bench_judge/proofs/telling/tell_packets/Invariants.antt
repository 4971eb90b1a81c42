use Rattle.std.proofs.Common.{◌≡◌, ℕ, List, Some, reverse}
use Rattle.ch11_reader.specs.Listing.{listing}
use Rattle.ch11_stream.proofs.Readings.{IsAmid}
use Rattle.bench_judge.specs.Tallies.{IsPacketTelling}
use Rattle.bench_judge.proofs.telling.tell_packets.Given as goal

-- the packets so far are those of the file, and the first of them that miss the rule are told
abbrev pub invariant-packets : goal.invariant-packets
invariant-packets g l = record {
  known : (file : List ℕ) → g.R.Read.remaining l.fn.input ≡ Some file → IsAmid file l.packets;
  told : IsPacketTelling l.skips l.rule l.most (listing (reverse l.packets.earlier)) l.text.items l.left;
}
