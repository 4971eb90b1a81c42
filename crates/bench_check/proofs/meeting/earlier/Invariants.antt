use Rattle.std.proofs.Common.{◌≡◌, take}
use Rattle.std.specs.List.{filter}
use Rattle.bench_check.specs.Meeting.{is_before}
use Rattle.bench_check.proofs.meeting.earlier.Given as goal

-- what was looked at and is planned for an earlier run
abbrev pub invariant-loop-fault : goal.invariant-loop-fault
invariant-loop-fault l = l.kept.items ≡ filter (is_before l.run) (take l.fault-index l.faults)
