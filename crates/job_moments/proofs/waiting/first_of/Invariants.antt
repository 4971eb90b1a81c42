use Rattle.std.proofs.Common.{All, take}
use Rattle.job_moments.specs.Awaiting.{IsStill}
use Rattle.job_moments.proofs.waiting.first_of.Given as goal

-- none of the lines so far is due
abbrev pub invariant-loop-place : goal.invariant-loop-place
invariant-loop-place g l = All (IsStill l.counts.made l.next) (take l.place l.lines)
