use Rattle.std.proofs.Common.{◌≡◌, ℕ, List, Some}
use Rattle.ch11_stream.proofs.Readings.{IsAmid}
use Rattle.bench_select.proofs.Passed.{viewed_so_far}
use Rattle.bench_signals.specs.Counting.{AreCounted}
use Rattle.bench_signals.proofs.statistics.count_signals.Given as goal

-- the packets so far are those of the file, and their messages are counted
abbrev pub invariant-packets : goal.invariant-packets
invariant-packets g l = record {
  known : (file : List ℕ) → g.R.Read.remaining l.fn.input ≡ Some file → IsAmid file l.packets;
  counted : AreCounted l.selection l.signals (viewed_so_far l.packets.earlier) l.counting;
}
