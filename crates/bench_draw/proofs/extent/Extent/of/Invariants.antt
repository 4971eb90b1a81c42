use Rattle.std.proofs.Common.{◌≡◌, ℕ, List, Some, reverse}
use Rattle.ch11_stream.proofs.Readings.{IsAmid}
use Rattle.ch11_reader.specs.Contents.{capped}
use Rattle.bench_draw.specs.Chosen.{chosen}
use Rattle.bench_draw.proofs.extent.Extent.of.Given as goal

-- the packets so far are those of the file, and the chosen ones of their messages were counted
abbrev pub invariant-packets : goal.invariant-packets
invariant-packets g l = record {
  known : (file : List ℕ) → g.R.Read.remaining l.fn.input ≡ Some file → IsAmid file l.packets;
  counted : l.extent.messages ≡ capped (chosen l.selection (reverse l.packets.earlier));
}
