use Rattle.std.specs.Borrow.{Bor}
use Rattle.std.proofs.Common.{◌∙◌, ap}
use Rattle.judge_rules.specs.Faults.{Read, both, made}
use Rattle.judge_rules.specs.Ranges.{IsCheck}
use Rattle.judge_rules.specs.declared.rules.Check.{Check}
use Rattle.signal_dictionary.specs.declared.signals.Signal.{Signal}
use Rattle.signal_judge.specs.Asked.{with_wanted}
use Rattle.signal_judge.specs.Rules.{what_of}
use Rattle.signal_judge.specs.declared.rules.Asked.{Asked}
use Rattle.signal_judge.proofs.Asking.{both_made, if_second}
use Rattle.signal_judge.proofs.reading.what_of.Goals as goal

pub returns-clause-value : goal.returns-clause-value
returns-clause-value c =
    ap (made what_of) c.both.ensures
    ∙ both_made (λ (s : Bor Signal). s.now) with_wanted c.known-found.result c.args.asked
    ∙ ap (λ (s : Read Signal). both s (made with_wanted c.args.asked)) c.known-found.ensures

pub returns-clause-check : goal.returns-clause-check
returns-clause-check c = rw c.both.ensures (if_second (λ (a : Asked × Check). IsCheck a.1) c.known-found.result c.args.asked c.requires)
