use Rattle.std.proofs.Common.{ap}
use Rattle.judge_rules.specs.Parts.{Parts}
use Rattle.signal_judge.specs.Asked.{wanted_of}
use Rattle.signal_judge.specs.Rules.{SignalParts}
use Rattle.signal_judge.proofs.reading.signal_rule.Goals as goal

pub rule_of-requires : goal.rule_of-requires
rule_of-requires c = (c.requires.place, (c.args.what.0.now.chosen.1.0, c.requires.check))

pub invariant_of-result : goal.invariant_of-result
invariant_of-result c = record { of = ap (λ (p : Parts). p.selector) c.rule_of.ensures }

pub returns-clause-parts : goal.returns-clause-parts
returns-clause-parts c = ap (λ (p : Parts). let parts : SignalParts = record { rule = p; signal = c.args.what.0.now; wanted = wanted_of c.args.what.1.0 } in parts) c.rule_of.ensures

pub returns-clause-line : goal.returns-clause-line
returns-clause-line c = ap (λ (p : Parts). p.line) c.rule_of.ensures
