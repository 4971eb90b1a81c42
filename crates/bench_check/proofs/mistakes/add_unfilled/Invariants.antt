use Rattle.std.proofs.Common.{◌≡◌, ◌++◌, take}
use Rattle.std.specs.List.{flat_map}
use Rattle.bench_check.specs.Mistakes.{unfilled_of}
use Rattle.bench_check.proofs.mistakes.add_unfilled.Given as goal

-- those of the terminals that were looked at are added
abbrev pub invariant-loop-address : goal.invariant-loop-address
invariant-loop-address l = l.found.items ≡ l.fn.found.items ++ flat_map (unfilled_of l.oddities) (take l.address-index l.addresses)
