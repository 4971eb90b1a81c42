use Rattle.std.proofs.Common.{◌≡◌, ℕ, List, Some, reverse, length}
use Rattle.ch11_stream.proofs.Readings.{IsAmid}
use Rattle.bench_export.specs.Changes.{changes_in}
use Rattle.bench_export.specs.Choosing.{selects_any}
use Rattle.bench_export.specs.Merging.{IsSurvey}
use Rattle.bench_export.proofs.waves.overview_of.Given as goal

-- the packets so far are those of the file, and their changes were noted
abbrev pub invariant-packets : goal.invariant-packets
invariant-packets g l = record {
  many : length l.found.survey.marks.items ≡ 65536;
  known : (file : List ℕ) → g.R.Read.remaining l.fn.input ≡ Some file → IsAmid file l.packets;
  noted : IsSurvey l.found.survey.marks.items l.found.survey.least l.found.survey.newest l.found.survey.lag (changes_in l.selection (reverse l.packets.earlier));
  selected : l.found.selected ≡ selects_any l.selection (reverse l.packets.earlier);
}
