use Rattle.std.proofs.Common.{◌≡◌, ℕ, List, drop}
use Rattle.bench_complete.specs.Pieces.{kept_entries}
use Rattle.bench_complete.specs.Complete.{extent_behind, extent_of}
use Rattle.bench_complete.proofs.extent.extent_of.Given as goal

abbrev pub invariant-packets : goal.invariant-packets
invariant-packets l = (file : List ℕ) → extent_behind l.extent (kept_entries file (drop l.packet-index l.packets)) ≡ extent_of (kept_entries file l.packets)
