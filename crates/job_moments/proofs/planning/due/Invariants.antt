use Rattle.std.proofs.Common.{◌≡◌, take}
use Rattle.job_moments.specs.Groups.{lines_of_groups}
use Rattle.job_moments.specs.Planning.{faults_at}
use Rattle.job_moments.specs.Rules.{plans_of}
use Rattle.job_moments.proofs.planning.due.Given as goal

-- the faults so far are those of the groups so far
abbrev pub invariant-loop-group : goal.invariant-loop-group
invariant-loop-group l = l.faults.items ≡ faults_at l.counts.made l.next (plans_of (lines_of_groups (take l.group-index l.groups)))
