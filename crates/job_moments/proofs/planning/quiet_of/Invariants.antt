use Rattle.std.proofs.Common.{All, take}
use Rattle.job_moments.specs.Quiet.{Sleeps}
use Rattle.job_moments.specs.Rules.{occasion_of}
use Rattle.job_moments.proofs.planning.quiet_of.Given as goal

-- none of the rules so far is due at the messages that are quiet
abbrev pub invariant-loop-rule : goal.invariant-loop-rule
invariant-loop-rule l = All (λ rule. Sleeps l.quiet l.counts.made (occasion_of rule)) (take l.rule-index l.rules)
