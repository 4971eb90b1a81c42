-- What the program prints of a fault of a dictionary (own choice).
use Rattle.std.specs.Prelude.{ℕ, List, ◌++◌, codes, decimal}
use Rattle.judge_rules.specs.declared.fault.RuleFault.{RuleFault}
use Rattle.judge_rules.specs.declared.fault.RuleFault.TheVariants.{Word, Number, Range, Memory}
use Rattle.signal_dictionary.specs.declared.fault.DictionaryError.{DictionaryError}

abbrev pub code_text : RuleFault → List ℕ
code_text Word = codes "D1 line "
code_text Number = codes "D2 line "
code_text Range = codes "D3 line "
code_text Memory = codes "D4 line "

abbrev pub error_text : DictionaryError → List ℕ
error_text e = code_text e.fault ++ decimal e.line
