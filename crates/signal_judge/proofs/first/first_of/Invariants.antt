use Rattle.std.proofs.Common.{◌≡◌, ℕ, List, Some}
use Rattle.ch11_stream.proofs.Readings.{IsAmid}
use Rattle.signal_judge.specs.Tallies.{IsFinding}
use Rattle.bench_select.proofs.Passed.{viewed_so_far}
use Rattle.signal_judge.proofs.first.first_of.Given as goal

-- the packets so far are those of the file, and the first of their messages that miss the rule are found
abbrev pub invariant-packets : goal.invariant-packets
invariant-packets g l = record {
  known : (file : List ℕ) → g.R.Read.remaining l.fn.input ≡ Some file → IsAmid file l.packets;
  finding : IsFinding l.rule l.origins l.most (viewed_so_far l.packets.earlier) l.found.items l.tally;
}
