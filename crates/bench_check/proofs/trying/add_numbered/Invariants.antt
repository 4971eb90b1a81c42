use Rattle.std.proofs.Common.{◌≡◌, ◌++◌, take}
use Rattle.bench_check.specs.Unmet.{numbered}
use Rattle.bench_check.proofs.trying.add_numbered.Given as goal

-- those that were looked at are kept
abbrev pub invariant-loop-fault : goal.invariant-loop-fault
invariant-loop-fault l = l.unmet.items ≡ l.fn.unmet.items ++ numbered l.number (take l.fault-index l.faults)
