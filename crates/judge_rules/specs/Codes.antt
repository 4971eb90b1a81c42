-- What the program prints of a fault of rules (own choice).
use Rattle.std.specs.Prelude.{ℕ, List, ◌++◌, codes, decimal}
use Rattle.judge_rules.specs.declared.fault.RuleFault.{RuleFault}
use Rattle.judge_rules.specs.declared.fault.RuleFault.TheVariants.{Word, Number, Range, Memory}
use Rattle.judge_rules.specs.declared.fault.RuleError.{RuleError}

abbrev pub code_text : RuleFault → List ℕ
code_text Word = codes "I1 line "
code_text Number = codes "I2 line "
code_text Range = codes "I3 line "
code_text Memory = codes "I4 line "

abbrev pub error_text : RuleError → List ℕ
error_text e = code_text e.fault ++ decimal e.line
