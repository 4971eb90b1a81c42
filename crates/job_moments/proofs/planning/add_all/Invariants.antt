use Rattle.std.proofs.Common.{◌≡◌, List, ◌++◌, take}
use Rattle.job_moments.specs.Planning.{PlannedFault, faults_at}
use Rattle.job_moments.specs.Rules.{plans_of}
use Rattle.job_moments.proofs.planning.add_all.Given as goal

-- the faults so far are those of the rules so far
abbrev pub invariant-loop-rule : goal.invariant-loop-rule
invariant-loop-rule l = (before : List PlannedFault) → l.fn.faults.items ≡ faults_at l.counts.made l.next before
    → l.faults.items ≡ faults_at l.counts.made l.next (before ++ plans_of (take l.rule-index l.rules))
