use Rattle.std.proofs.Common.{◌≡◌, ℕ, List, Some, reverse}
use Rattle.ch11_stream.proofs.Readings.{IsAmid}
use Rattle.bench_export.specs.Choosing.{selects_any}
use Rattle.bench_export.proofs.choosing.selects_any.Given as goal

-- the packets so far are those of the file, and it is known whether they have a selected message
abbrev pub invariant-packets : goal.invariant-packets
invariant-packets g l = record {
  known : (file : List ℕ) → g.R.Read.remaining l.fn.input ≡ Some file → IsAmid file l.packets;
  selected : l.selected ≡ selects_any l.selection (reverse l.packets.earlier);
}
