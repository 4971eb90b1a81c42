use Rattle.std.proofs.Common.{◌≡◌, ◌++◌, ◌-◌, length, drop, map}
use Rattle.ch11_f1.specs.BodyReading.{Message}
use Rattle.ch11_layout.specs.Stamps.{recorded}
use Rattle.bench_select.specs.Viewed.{viewed_in}
use Rattle.bench_places.proofs.messages.FollowingIterator.next.Given as goal

abbrev pub invariant-loop-seen : goal.invariant-loop-seen
invariant-loop-seen l = map (λ (m : Message). (l.self-inside.channel, recorded l.self-inside.kind m)) l.self-inside.current ++ viewed_in (drop l.self-inside.packet l.self-inside.index.now) ≡ l.fn.self

abbrev pub decreases-loop-seen : goal.decreases-loop-seen
decreases-loop-seen l = length l.self-inside.index.now - l.self-inside.packet
