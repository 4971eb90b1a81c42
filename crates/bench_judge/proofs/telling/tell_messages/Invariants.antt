use Rattle.std.proofs.Common.{◌≡◌, ℕ, List, Some}
use Rattle.ch11_stream.proofs.Readings.{IsAmid}
use Rattle.bench_judge.specs.Tallies.{IsTelling}
use Rattle.bench_select.proofs.Passed.{viewed_so_far}
use Rattle.bench_judge.proofs.telling.tell_messages.Given as goal

-- the packets so far are those of the file, and the first of their messages that miss the rule are told
abbrev pub invariant-packets : goal.invariant-packets
invariant-packets g l = record {
  known : (file : List ℕ) → g.R.Read.remaining l.fn.input ≡ Some file → IsAmid file l.packets;
  told : IsTelling l.rule l.origins l.most (viewed_so_far l.packets.earlier) l.telling;
}
