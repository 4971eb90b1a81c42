use Rattle.std.proofs.Common.{◌≡◌, [], map, take}
use Rattle.job_file.specs.TimedParts.{planned_by}
use Rattle.job_file.proofs.job_run.occasions.Given as goal

-- those that were put in are the first
abbrev pub invariant-loop-one : goal.invariant-loop-one
invariant-loop-one l = l.all ≡ record { faults = map planned_by (take l.one-index l.faults); made = [] }
