use Rattle.std.proofs.Common.{All, take}
use Rattle.job_moments.specs.Awaiting.{due_of}
use Rattle.job_moments.specs.Quiet.{Sleeps}
use Rattle.job_moments.proofs.waiting.quiet_of.Given as goal

-- none of the lines so far is due at the messages that are quiet
abbrev pub invariant-loop-line : goal.invariant-loop-line
invariant-loop-line g l = All (λ line. Sleeps l.quiet l.counts.made (due_of line)) (take l.line-index l.lines)
