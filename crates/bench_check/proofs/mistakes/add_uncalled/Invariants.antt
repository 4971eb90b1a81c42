use Rattle.std.proofs.Common.{◌≡◌, ◌++◌, take}
use Rattle.std.specs.List.{flat_map}
use Rattle.bench_check.specs.Mistakes.{uncalled_at}
use Rattle.bench_check.proofs.mistakes.add_uncalled.Given as goal

-- those that were looked at are added
abbrev pub invariant-loop-address : goal.invariant-loop-address
invariant-loop-address l = l.found.items ≡ l.fn.found.items ++ flat_map (uncalled_at l.calls) (take l.address-index l.addresses)
