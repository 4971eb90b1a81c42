use Rattle.std.proofs.Common.{◌≡◌, length}
use Rattle.judge_rules.specs.Values.{many_fault}
use Rattle.judge_rules.proofs.values.fault_of_many.Given as goal

abbrev pub invariant-loop-word : goal.invariant-loop-word
invariant-loop-word l = many_fault l.words ≡ many_fault l.initial.words

abbrev pub decreases-loop-word : goal.decreases-loop-word
decreases-loop-word l = length l.words
