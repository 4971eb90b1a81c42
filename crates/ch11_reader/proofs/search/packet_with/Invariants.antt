use Rattle.std.proofs.Common.{◌≡◌, ◌-◌, ◌<◌, ◌≤◌, length, Some}
use Rattle.std.specs.Prelude.{slice_get}
use Rattle.ch11_reader.specs.declared.packet.Packet.{Packet}
use Rattle.ch11_reader.proofs.search.packet_with.Given as goal

abbrev pub invariant-halving : goal.invariant-halving
invariant-halving l = record {
  order : l.low < l.high;
  within : l.high ≤ length l.packets;
  from : (e : Packet) → slice_get l.packets l.low ≡ Some e → e.before ≤ l.before;
  last : (e : Packet) → slice_get l.packets l.high ≡ Some e → l.before < e.before;
}

abbrev pub decreases-halving : goal.decreases-halving
decreases-halving l = l.high - l.low
