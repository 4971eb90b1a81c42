use Rattle.std.proofs.Common.{◌≡◌}
use Rattle.mil_bus.specs.Addresses.{stations_below}
use Rattle.mil_bus.specs.Index.{IsIndexBelow}
use Rattle.mil_bus.proofs.addresses.fresh.Given as goal

abbrev pub invariant-loop-own : goal.invariant-loop-own
invariant-loop-own l = record {
  stations : l.terminals.items ≡ stations_below l.own l.addresses;
  index : IsIndexBelow l.own l.places l.terminals.items;
}
