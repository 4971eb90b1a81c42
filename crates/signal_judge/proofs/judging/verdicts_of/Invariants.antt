use Rattle.signal_judge.proofs.Whole.{AreJudged}
use Rattle.signal_judge.proofs.judging.verdicts_of.Given as goal

-- the rules so far have their verdicts
abbrev pub invariant-rules : goal.invariant-rules
invariant-rules l = AreJudged l.rules l.tallies l.verdicts.items l.place
