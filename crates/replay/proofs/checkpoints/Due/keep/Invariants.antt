use Rattle.std.proofs.Common.{◌≡◌, ◌-◌, length}
use Rattle.replay.specs.Keeping.{IsDue, KeepsMoreStates}
use Rattle.replay.proofs.checkpoints.Due.keep.Given as goal

abbrev pub invariant-each : goal.invariant-each
invariant-each l = record {
  due : IsDue l.channels l.initial.self.channel l.standing.heard (length l.stops.items) l.self;
  count : length l.stops.items ≡ length l.initial.stops.items;
  kept : KeepsMoreStates l.initial.self.channel l.channels l.standing l.initial.self.stop l.initial.stops.items l.self.stop l.stops.items;
}

abbrev pub decreases-each : goal.decreases-each
decreases-each l = length l.stops.items - l.self.stop
