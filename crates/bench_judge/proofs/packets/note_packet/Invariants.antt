use Rattle.std.proofs.Common.{◌≡◌, ◌-◌, ◌<◌, ◌^◌, ◌++◌, ◌∷◌, [], List, length}
use Rattle.ch11_reader.specs.declared.packet.Packet.{Packet}
use Rattle.bench_judge.specs.Packets.{ArePacketTallies, IsPacketTally}
use Rattle.bench_judge.proofs.Passing.{IsNoting}
use Rattle.bench_judge.proofs.packets.note_packet.Given as goal

-- the tallies of the rules so far count the packet
abbrev pub invariant-rules : goal.invariant-rules
invariant-rules l = record {
  many : length l.tallies ≡ length l.rules;
  noting : (packets : List Packet) → length packets < 2 ^ 64 - 1 → ArePacketTallies l.rules packets l.fn.tallies
      → IsNoting (λ rule. IsPacketTally rule packets) (λ rule. IsPacketTally rule (packets ++ l.packet ∷ [])) l.rules l.tallies l.place;
}
