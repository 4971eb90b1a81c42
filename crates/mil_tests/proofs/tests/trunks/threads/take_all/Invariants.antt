use Rattle.std.proofs.Common.{◌≡◌, ◌≤◌, ◌+◌, ◌-◌, vec_len, vec_capacity}
use Rattle.mil_trunk.specs.Ends.{IsTakerOf, received}
use Rattle.mil_tests.proofs.tests.trunks.threads.take_all.Given as goal

abbrev pub invariant-loop : goal.invariant-loop
invariant-loop g l = record {
  ours : IsTakerOf l.trunk l.taker;
  received : received l.taker ≡ l.taken.items;
  room : vec_len l.taken + (l.fn.wanted - l.counter) ≤ vec_capacity l.taken;
}
