-- A rule by its parts, as a line spells them (own choice).
use Rattle.std.specs.Prelude.{ℕ, Option}
use Rattle.mil_word.specs.declared.Line.{Line}
use Rattle.judge_rules.specs.declared.rules.Check.{Check}
use Rattle.judge_rules.specs.declared.rules.Rule.{Rule}
use Rattle.judge_rules.specs.declared.rules.Selector.{Selector}
use Rattle.judge_rules.specs.declared.rules.Span.{Span}
use Rattle.judge_rules.specs.Ranges.{AreInRange}

pub record Parts : Type 0 where
  pub line : ℕ
  pub channel : Option ℕ
  pub bus : Option Line
  pub span : Span
  pub selector : Selector
  pub check : Check

abbrev pub of_these : ℕ → Option ℕ → Option Line → Span → Selector → Check → Parts
of_these line channel bus span selector check =
    record { line = line; channel = channel; bus = bus; span = span; selector = selector; check = check }

abbrev pub parts_of : Rule → Parts
parts_of rule = of_these rule.line rule.channel rule.bus rule.span rule.selector rule.check

-- a rule whose numbers are in their ranges
abbrev pub IsInRange : Rule → Type 0
IsInRange rule = AreInRange rule.channel rule.span rule.selector rule.check
