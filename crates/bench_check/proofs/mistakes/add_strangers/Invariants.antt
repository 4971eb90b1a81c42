use Rattle.std.proofs.Common.{◌≡◌, ◌++◌}
use Rattle.bench_check.specs.Mistakes.{strangers_below}
use Rattle.bench_check.proofs.mistakes.add_strangers.Given as goal

-- those below this address are added
abbrev pub invariant-loop-address : goal.invariant-loop-address
invariant-loop-address l = l.found.items ≡ l.fn.found.items ++ strangers_below l.addresses l.calls l.address
