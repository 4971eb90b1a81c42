use Rattle.std.proofs.Common.{All, take}
use Rattle.job_moments.specs.Quiet.{IsPart}
use Rattle.job_moments.proofs.groups.quiet_for_all.Given as goal

-- they are quiet for each of the chunks so far
abbrev pub invariant-loop-chunk : goal.invariant-loop-chunk
invariant-loop-chunk g l = All (λ chunk. IsPart l.quiet chunk.quiet) (take l.chunk-index l.chunks)
