use Rattle.mil_trunk.specs.Ends.{IsTakerOf}
use Rattle.speed.proofs.trunk.take_all.Given as goal

abbrev pub invariant-loop : goal.invariant-loop
invariant-loop g l = record {
  again : (goal.iterator-loop g).can_next l.iterator' × (goal.iterator-loop g).is_finite l.iterator';
  ours : IsTakerOf l.trunk l.taker;
}
