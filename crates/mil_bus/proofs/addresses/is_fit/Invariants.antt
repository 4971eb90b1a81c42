use Rattle.std.proofs.Common.{◌≡◌, drop}
use Rattle.mil_bus.specs.Addresses.{is_fit}
use Rattle.mil_bus.proofs.addresses.is_fit.Given as goal

abbrev pub invariant-loop-i : goal.invariant-loop-i
invariant-loop-i l = is_fit (drop l.i l.addresses) ≡ is_fit l.addresses
