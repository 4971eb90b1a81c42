use Rattle.std.proofs.Common.{◌≡◌, ℕ, List, Some, reverse}
use Rattle.ch11_stream.proofs.Readings.{IsAmid}
use Rattle.bench_export.specs.Changes.{changes_in}
use Rattle.bench_export.specs.Merging.{IsMerging}
use Rattle.bench_export.proofs.waves.write_merged.Given as goal

-- the packets so far are those of the file, and their changes were written or wait
abbrev pub invariant-packets : goal.invariant-packets
invariant-packets g l = record {
  lag : l.merge.lag ≡ l.lag;
  known : (file : List ℕ) → g.R.Read.remaining l.fn.input ≡ Some file → IsAmid file l.packets;
  merging : IsMerging l.told l.merge.lag l.merge.last l.merge.lines.shown.items (g.W.Write.contents l.fn.out) (g.W.Write.contents l.out) (changes_in l.selection (reverse l.packets.earlier)) l.merge.waiting.items;
}
