use Rattle.std.proofs.Common.{◌≡◌, ◌+◌, drop}
use Rattle.bench_complete.proofs.Front.{front_size}
use Rattle.bench_complete.proofs.leading.leading.Given as goal

abbrev pub invariant-packets : goal.invariant-packets
invariant-packets l = (l.place ≡ l.packet-index) × (l.packet-index + front_size (drop l.packet-index l.packets) ≡ front_size l.packets)
