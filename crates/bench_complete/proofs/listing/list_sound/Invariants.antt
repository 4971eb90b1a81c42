use Rattle.std.proofs.Common.{◌≡◌, ℕ, List, Some, reverse}
use Rattle.bench_clock.proofs.Streamed.{IsAmong}
use Rattle.bench_complete.specs.Judging.{has_time}
use Rattle.bench_complete.specs.Listing.{AreSmall, places_of}
use Rattle.bench_complete.proofs.Entered.{IsSkipping}
use Rattle.bench_complete.proofs.listing.list_sound.Given as goal

-- the stretches so far are those of the file, and what is kept is that of their packets
abbrev pub invariant-stretches : goal.invariant-stretches
invariant-stretches g l = record {
  small : AreSmall l.found.listed.packets.items;
  places : l.found.listed.packets.items ≡ places_of (reverse l.stretches.earlier);
  known : (file : List ℕ) → g.R.Read.remaining l.fn.input ≡ Some file → IsAmong file l.stretches;
  timed : (file : List ℕ) → g.R.Read.remaining l.fn.input ≡ Some file → l.found.listed.timed ≡ has_time file (reverse l.stretches.earlier);
  skipped : (file : List ℕ) → g.R.Read.remaining l.fn.input ≡ Some file → IsSkipping file l.found.skips.items l.stretches;
}
