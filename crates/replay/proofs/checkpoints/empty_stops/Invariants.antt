use Rattle.std.proofs.Common.{◌≡◌, [], length}
use Rattle.replay.specs.Standings.{AreCheckpoints}
use Rattle.replay.proofs.checkpoints.empty_stops.Given as goal

abbrev pub invariant-loop-k : goal.invariant-loop-k
invariant-loop-k l = record {
  stops : AreCheckpoints [] l.channels l.stops.items;
  counted : length l.stops.items ≡ l.k;
}
