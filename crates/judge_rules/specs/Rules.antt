-- The rules that a text spells, by their parts, or its first fault (own choice).
use Rattle.std.specs.Prelude.{◌≡◌, ℕ, ◌+◌, ◌==◌, if◌then◌else◌, List, [], ◌∷◌, Result, Ok, Err, Option, Some, None}
use Rattle.std.specs.Prelude.{slice_get}
use Rattle.text_lines.specs.Words.{Text}
use Rattle.judge_rules.specs.declared.fault.RuleFault.{RuleFault}
use Rattle.judge_rules.specs.declared.fault.RuleFault.TheVariants.{Word, Range, Memory}
use Rattle.judge_rules.specs.declared.fault.RuleError.{RuleError}
use Rattle.judge_rules.specs.Faults.{Read}
use Rattle.judge_rules.specs.Lines.{said}
use Rattle.judge_rules.specs.Parts.{Parts}
use Rattle.text_lines.specs.Lines.{text_lines}

abbrev pub AllRules : Type 0
AllRules = Result (List Parts) RuleError

abbrev pub fault_at : ℕ → RuleFault → AllRules
fault_at line fault = Err (record { fault = fault; line = line })

-- a rule in front of others
abbrev pub in_front : Parts → AllRules → AllRules
in_front rule (Ok rules) = Ok (rule ∷ rules)
in_front rule (Err e) = Err e

-- what a line says, which stands behind so many rules; what follows it is read as behind as many rules, or as behind
-- one more
abbrev pub taken : ℕ → ℕ → Option (Read Parts) → AllRules → AllRules → AllRules
taken before line None same more = same
taken before line (Some (Err fault)) same more = fault_at line fault
taken before line (Some (Ok rule)) same more = if before == 10000 then fault_at line Range else in_front rule more

-- the rules of lines, the first of this number, behind so many rules; there has to be one
abbrev pub rules_from : ℕ → ℕ → List Text → AllRules
rules_from before line [] = if before == 0 then fault_at line Word else Ok []
rules_from before line (text ∷ rest) =
    taken before line (said line text) (rules_from before (line + 1) rest) (rules_from (before + 1) (line + 1) rest)

unfoldable pub rules_in : Text → AllRules
rules_in text = rules_from 0 1 (text_lines text)

-- one of these rules stands in this line
abbrev pub HasLine : ℕ → List Parts → Type 0
HasLine line rules = (place : ℕ) × ((rule : Parts) × ((slice_get rules place ≡ Some rule) × (rule.line ≡ line)))

-- an answer that gives no rules: the fault of the text; or, where it has none, want of memory at the line of a rule
abbrev pub IsRuleError : RuleError → AllRules → Type 0
IsRuleError e (Ok rules) = (e.fault ≡ Memory) × HasLine e.line rules
IsRuleError e (Err first) = e ≡ first

-- the same, with the line at which memory was refused
abbrev pub FitsAt : ℕ → RuleError → AllRules → Type 0
FitsAt line e (Ok rules) = e ≡ record { fault = Memory; line = line }
FitsAt line e (Err first) = e ≡ first
