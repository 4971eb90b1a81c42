use Rattle.std.proofs.Common.{refl}
use Rattle.text_lines.specs.Lines.{text_lines}
use Rattle.judge_rules.specs.Checks.{name_of}
use Rattle.judge_rules.specs.Lines.{expected_in, rule_in, said}
use Rattle.judge_rules.specs.Rules.{rules_in}
use Rattle.judge_rules.specs.Spans.{behind_span}
use Rattle.judge_rules.proofs.standard.clean_is_one_rule.Goals as goal

pub returns : goal.returns
unfolding rules_in rule_in expected_in said text_lines behind_span name_of
returns c = refl
