use Rattle.std.specs.Borrow.{Bor}
use Rattle.std.proofs.Common.{◌∙◌, ap, sym}
use Rattle.std.specs.Prelude.{Ok}
use Rattle.judge_rules.specs.Faults.{Read, made}
use Rattle.judge_rules.specs.Ranges.{IsCheck, IsChoice, IsSpan}
use Rattle.judge_rules.specs.declared.rules.Check.{Check}
use Rattle.signal_dictionary.specs.declared.signals.Signal.{Signal}
use Rattle.signal_judge.specs.Rules.{Place, SignalParts, what_of, with_line}
use Rattle.signal_judge.specs.declared.rules.Asked.{Asked}
use Rattle.signal_judge.proofs.Asking.{of_both, second_made}
use Rattle.signal_judge.proofs.reading.rule_from.Goals as goal

pub signal_rule-requires-clause-place : goal.signal_rule-requires-clause-place
signal_rule-requires-clause-place c =
    (of_both (λ (p : Place). IsChoice 1 65535 p.0.0 × IsSpan p.1) (λ (w : Bor Signal × (Asked × Check)). IsCheck w.1.1) c.args.place c.args.what c.in-Ok.place c.in-Ok.what (sym c.in-Ok.ensures) c.requires.place c.requires.check).0

pub signal_rule-requires-clause-check : goal.signal_rule-requires-clause-check
signal_rule-requires-clause-check c =
    (of_both (λ (p : Place). IsChoice 1 65535 p.0.0 × IsSpan p.1) (λ (w : Bor Signal × (Asked × Check)). IsCheck w.1.1) c.args.place c.args.what c.in-Ok.place c.in-Ok.what (sym c.in-Ok.ensures) c.requires.place c.requires.check).1

pub returns-in-Ok-clause-value : goal.returns-in-Ok-clause-value
returns-in-Ok-clause-value c =
    ap (λ (p : SignalParts). let read : Read SignalParts = Ok p in read) c.signal_rule.ensures.parts
    ∙ ap (made (with_line c.args.line)) (ap (made (λ (x : Place × (Bor Signal × (Asked × Check))). (x.0, what_of x.1))) c.in-Ok.ensures ∙ second_made what_of c.args.place c.args.what)

pub returns-in-Err-clause-value : goal.returns-in-Err-clause-value
returns-in-Err-clause-value c = ap (made (with_line c.args.line)) (ap (made (λ (x : Place × (Bor Signal × (Asked × Check))). (x.0, what_of x.1))) c.in-Err.ensures ∙ second_made what_of c.args.place c.args.what)
