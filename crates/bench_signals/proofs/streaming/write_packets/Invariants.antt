use Rattle.std.proofs.Common.{◌≡◌, ℕ, List, Some, reverse}
use Rattle.csv.specs.Writing.{text_written}
use Rattle.ch11_stream.proofs.Readings.{IsAmid}
use Rattle.bench_export.specs.Between.{IsBetween}
use Rattle.bench_export.specs.Choosing.{selects_any}
use Rattle.bench_select.proofs.Passed.{viewed_so_far}
use Rattle.bench_signals.specs.Latest.{AreWritten}
use Rattle.bench_signals.proofs.streaming.write_packets.Given as goal

-- the packets so far are those of the file, and their rows were written
abbrev pub invariant-packets : goal.invariant-packets
invariant-packets g l = record {
  known : (file : List ℕ) → g.R.Read.remaining l.fn.input ≡ Some file → IsAmid file l.packets;
  between : IsBetween l.writer;
  written : AreWritten l.sheet l.fn.clock (text_written g.W.Write.contents l.fn.writer) (viewed_so_far l.packets.earlier) (text_written g.W.Write.contents l.writer) l.room.latest;
  selected : l.selected ≡ selects_any l.sheet.table.selection (reverse l.packets.earlier);
}
