use Rattle.std.proofs.Common.{◌≡◌, List, ◌++◌, take}
use Rattle.job_moments.specs.Chunks.{lines_of}
use Rattle.job_moments.specs.Planning.{PlannedFault, faults_at}
use Rattle.job_moments.specs.Rules.{plans_of}
use Rattle.job_moments.proofs.planning.add_chunks.Given as goal

-- the faults so far are those of the chunks so far
abbrev pub invariant-loop-chunk : goal.invariant-loop-chunk
invariant-loop-chunk l = (before : List PlannedFault) → l.fn.faults.items ≡ faults_at l.counts.made l.next before
    → l.faults.items ≡ faults_at l.counts.made l.next (before ++ plans_of (lines_of (take l.chunk-index l.chunks)))
