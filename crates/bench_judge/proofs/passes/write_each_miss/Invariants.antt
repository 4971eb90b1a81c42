use Rattle.std.proofs.Common.{◌≡◌, ℕ, List, Some}
use Rattle.bench_select.proofs.Passed.{viewed_so_far}
use Rattle.ch11_stream.proofs.Readings.{IsAmid}
use Rattle.bench_judge.specs.Tallies.{IsWriting}
use Rattle.bench_judge.proofs.passes.write_each_miss.Given as goal

-- the packets so far are those of the file, and those of their messages that miss the rule are written
abbrev pub invariant-packets : goal.invariant-packets
invariant-packets g l = record {
  known : (file : List ℕ) → g.R.Read.remaining l.fn.input ≡ Some file → IsAmid file l.packets;
  written : IsWriting (g.T.Tallied.is_tally l.rule l.origins) (g.T.Tallied.misses_next l.rule l.origins) (g.T.Tallied.line_of l.rule) (g.W.Write.contents l.fn.out) (viewed_so_far l.packets.earlier) (g.W.Write.contents l.out) l.tally;
}
