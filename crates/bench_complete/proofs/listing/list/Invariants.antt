use Rattle.std.proofs.Common.{◌≡◌, ℕ, List, Some, reverse}
use Rattle.ch11_stream.proofs.Readings.{IsAmid}
use Rattle.bench_complete.specs.Judging.{has_time}
use Rattle.bench_complete.specs.Listing.{AreSmall, places_of}
use Rattle.bench_complete.proofs.listing.list.Given as goal

-- the packets so far are those of the file, and what is kept is theirs
abbrev pub invariant-packets : goal.invariant-packets
invariant-packets g l = record {
  small : AreSmall l.listed.packets.items;
  places : l.listed.packets.items ≡ places_of (reverse l.packets.earlier);
  known : (file : List ℕ) → g.R.Read.remaining l.fn.input ≡ Some file → IsAmid file l.packets;
  timed : (file : List ℕ) → g.R.Read.remaining l.fn.input ≡ Some file → l.listed.timed ≡ has_time file (reverse l.packets.earlier);
}
