use Rattle.std.proofs.Common.{◌≡◌, ℕ, List, Some, length, reverse}
use Rattle.ch11_stream.proofs.Readings.{IsAmid}
use Rattle.bench_stat.specs.Told.{AreTold}
use Rattle.bench_stat.proofs.following_packets.told_channels.Given as goal

-- the packets so far are those of the file, and what they tell is told
abbrev pub invariant-packets : goal.invariant-packets
invariant-packets g l = record {
  known : (file : List ℕ) → g.R.Read.remaining l.fn.input ≡ Some file → IsAmid file l.packets;
  counted : (file : List ℕ) → g.R.Read.remaining l.fn.input ≡ Some file → AreTold l.shown l.selection l.figures (reverse l.packets.earlier) l.told;
  many : length l.packets.earlier ≡ l.made;
}
