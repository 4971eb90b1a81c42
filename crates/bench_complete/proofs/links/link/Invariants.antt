use Rattle.bench_complete.specs.Lanes.{AreLinked}
use Rattle.bench_complete.proofs.links.link.Given as goal

abbrev pub invariant-packets : goal.invariant-packets
invariant-packets l = AreLinked l.packets l.place l.first.items l.next.items

abbrev pub decreases-packets : goal.decreases-packets
decreases-packets l = l.place
