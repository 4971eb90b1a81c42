use Rattle.std.proofs.Common.{◌≡◌, ◌≤◌, ℕ, List, Some}
use Rattle.ch11_reader.specs.Contents.{total_in}
use Rattle.ch11_stream.proofs.Readings.{IsAmid}
use Rattle.bench_select.proofs.Passed.{viewed_so_far}
use Rattle.bench_view.specs.Filling.{AreFilled}
use Rattle.bench_view.proofs.streaming.page_of.Given as goal

-- the packets so far are those of the file, and the lines of their messages were put
abbrev pub invariant-packets : goal.invariant-packets
invariant-packets g l = record {
  known : (file : List ℕ) → g.R.Read.remaining l.fn.input ≡ Some file → IsAmid file l.packets;
  few : l.filling.chosen ≤ total_in l.packets.earlier;
  filled : AreFilled l.template.front.items l.asked.signals.now l.asked.selection (viewed_so_far l.packets.earlier) l.filling;
}
