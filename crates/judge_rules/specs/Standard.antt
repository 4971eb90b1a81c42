-- The rule by which a recording is judged where no other is given: each message is clean (own choice).
use Rattle.std.specs.Prelude.{None}
use Rattle.judge_rules.specs.Parts.{Parts}
use Rattle.judge_rules.specs.declared.rules.Selector.TheVariants.{Any}
use Rattle.judge_rules.specs.declared.rules.Span.{Span}
use Rattle.judge_rules.specs.declared.rules.Check.TheVariants.{Clean}

-- at any time
abbrev pub always : Span
always = record { from = None; to = None }

abbrev pub standard_rule : Parts
standard_rule = record { line = 1; channel = None; bus = None; span = always; selector = Any; check = Clean }
