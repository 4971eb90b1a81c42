use Rattle.std.proofs.Common.{◌≡◌, ℕ, List, Some, reverse}
use Rattle.std.specs.Io.KnownBytes.{Appends}
use Rattle.csv.specs.Writing.{text_written}
use Rattle.ch11_stream.proofs.Readings.{IsAmid}
use Rattle.bench_export.specs.Between.{IsBetween}
use Rattle.bench_export.specs.Choosing.{selects_any}
use Rattle.bench_export.specs.Tables.{packets_text}
use Rattle.bench_export.proofs.streaming.write_packets.Given as goal

-- the packets so far are those of the file, and their rows were written
abbrev pub invariant-packets : goal.invariant-packets
invariant-packets g l = record {
  known : (file : List ℕ) → g.R.Read.remaining l.fn.input ≡ Some file → IsAmid file l.packets;
  between : IsBetween l.writer;
  written : Appends (text_written g.W.Write.contents l.fn.writer) (text_written g.W.Write.contents l.writer) (packets_text l.table l.fn.clock 0 (reverse l.packets.earlier));
  selected : l.selected ≡ selects_any l.table.selection (reverse l.packets.earlier);
}
