use Rattle.std.proofs.Common.{◌≡◌, ℕ, List, Some, length, reverse}
use Rattle.ch11_reader.specs.Listing.{listing}
use Rattle.ch11_stream.proofs.Readings.{IsAmid}
use Rattle.bench_judge.specs.Losses.{lost_of}
use Rattle.bench_judge.proofs.losses.count_lost.Given as goal

-- the packets so far are those of the file, and it is known what they say
abbrev pub invariant-packets : goal.invariant-packets
invariant-packets g l = record {
  known : (file : List ℕ) → g.R.Read.remaining l.fn.input ≡ Some file → IsAmid file l.packets;
  counted : l.lost ≡ lost_of (listing (reverse l.packets.earlier));
  many : length l.packets.earlier ≡ l.made;
}
