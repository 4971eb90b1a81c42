use Rattle.std.proofs.Common.{◌≡◌, ℕ, List, Some, length, reverse}
use Rattle.ch11_reader.specs.Listing.{listing}
use Rattle.ch11_stream.proofs.Readings.{IsAmid}
use Rattle.bench_judge.specs.Packets.{ArePacketTallies}
use Rattle.bench_judge.specs.Tallies.{AreTallies, IsTally}
use Rattle.bench_select.proofs.Passed.{viewed_so_far}
use Rattle.bench_judge.proofs.judging.judge.Given as goal

-- the packets so far are those of the file, and they and their messages are counted
abbrev pub invariant-packets : goal.invariant-packets
invariant-packets g l = record {
  known : (file : List ℕ) → g.R.Read.remaining l.fn.input ≡ Some file → IsAmid file l.packets;
  counted : AreTallies IsTally l.rules l.origins (viewed_so_far l.packets.earlier) l.tallies.items;
  wholes : ArePacketTallies l.rules (listing (reverse l.packets.earlier)) l.wholes.items;
  many : length l.packets.earlier ≡ l.made;
}
