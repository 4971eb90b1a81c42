use Rattle.std.proofs.Common.{◌≡◌, [], length}
use Rattle.bench_judge.specs.Packets.{IsPacketTally}
use Rattle.bench_judge.proofs.Whole.{AreNew}
use Rattle.bench_judge.proofs.packets.no_packets.Given as goal

-- each tally so far is of no packets
abbrev pub invariant-rules : goal.invariant-rules
invariant-rules l = record {
  many : length l.tallies.items ≡ l._rule-index;
  new : AreNew (λ rule. IsPacketTally rule []) l.tallies.items;
}
