use Rattle.std.proofs.Common.{◌≡◌, ◌++◌, take}
use Rattle.mil_line.proofs.plans.put_late.Given as goal

-- what was looked at is copied
abbrev pub invariant-loop-fault : goal.invariant-loop-fault
invariant-loop-fault l = l.faults.items ≡ l.initial.faults.items ++ take l.fault-index l.fault-items
