use Rattle.std.proofs.Common.{◌≡◌, length, take}
use Rattle.job_moments.specs.Chunks.{lines_of}
use Rattle.job_moments.proofs.groups.number_of.Given as goal

-- so many lines have the chunks so far
abbrev pub invariant-loop-chunk : goal.invariant-loop-chunk
invariant-loop-chunk g l = l.number ≡ length (lines_of (take l.chunk-index l.chunks))
