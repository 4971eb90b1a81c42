use Rattle.std.proofs.Common.{◌≡◌}
use Rattle.mil_trunk.specs.Ends.{IsTakerOf, received}
use Rattle.mil_tests.proofs.tests.trunks.threads.take_one.Given as goal

abbrev pub invariant-loop : goal.invariant-loop
invariant-loop g l = record {
  ours : IsTakerOf l.trunk l.taker;
  received : received l.taker ≡ received l.fn.taker;
}
