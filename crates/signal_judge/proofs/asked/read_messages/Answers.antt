use Rattle.std.proofs.Common.{subst, sym}
use Rattle.std.specs.Prelude.{IfOk}
use Rattle.judge_rules.specs.Faults.{Read}
use Rattle.judge_rules.specs.Ranges.{IsCheck}
use Rattle.judge_rules.specs.declared.rules.Check.{Check}
use Rattle.judge_rules.proofs.Ranges.{range_check}
use Rattle.signal_judge.proofs.asked.read_messages.Goals as goal

pub returns-clause-check : goal.returns-clause-check
returns-clause-check c = subst (λ (r : Read Check). IfOk r IsCheck) (sym c.in_ok-check.ensures) (range_check c.args.words.now)
