-- The rules that were taken so far while a text is read.
use Rattle.std.specs.Prelude.{◌≡◌, ℕ, ◌+◌, ◌≤◌, ◌⊎◌, List, [], ◌∷◌, ◌++◌, length, map, Ok, Err}
use Rattle.text_lines.specs.Lines.{text_lines}
use Rattle.text_lines.specs.Words.{Text}
use Rattle.judge_rules.specs.declared.fault.RuleError.{RuleError}
use Rattle.judge_rules.specs.declared.fault.RuleFault.TheVariants.{Range, Memory}
use Rattle.judge_rules.specs.Parts.{parts_of}
use Rattle.signal_dictionary.specs.declared.signals.Signal.{Signal}
use Rattle.signal_judge.specs.declared.reading.Spelled.{Spelled}
use Rattle.signal_judge.specs.declared.reading.Spelled.TheVariants.{Plain, OfSignal}
use Rattle.signal_judge.specs.declared.rules.AllRules.{AllRules}
use Rattle.signal_judge.specs.Rules.{AnyRule, Found, about_messages, about_signal, plain_of, rules_from, signal_parts}
use Rattle.signal_judge.specs.Rules.{signals_of}

-- what a line spells, by its parts
abbrev pub any_of : Spelled → AnyRule
any_of (Plain rule) = about_messages (parts_of rule)
any_of (OfSignal rule) = about_signal (signal_parts rule)

-- how many rules there are
abbrev pub many : AllRules → ℕ
many all = length all.plain.items + length all.signals.items

-- one more rule stands behind those of its kind
abbrev pub IsTaken : AllRules → Spelled → AllRules → Type 0
IsTaken before (Plain rule) after =
    (after.plain.items ≡ before.plain.items ++ rule ∷ []) × (after.signals.items ≡ before.signals.items)
IsTaken before (OfSignal rule) after =
    (after.plain.items ≡ before.plain.items) × (after.signals.items ≡ before.signals.items ++ rule ∷ [])

-- no rule was taken: there are as many as may be, or there is no memory for one more
abbrev pub IsRefused : RuleError → ℕ → AllRules → Type 0
IsRefused e line before =
    ((e ≡ record { fault = Range; line = line }) × (10000 ≤ many before))
    ⊎ ((e ≡ record { fault = Memory; line = line }) × (many before + 1 ≤ 10000))

-- rules in front of those that the rest gives
abbrev pub prefixed : List AnyRule → Found → Found
prefixed rules (Ok more) = Ok (rules ++ more)
prefixed rules (Err e) = Err e

-- the rules so far are those of the lines in front of the rest, of which the first has this number
pub record IsReading (all : List Signal) (text : Text) (rules : AllRules) (line : ℕ) (rest : Text) : Type 0 where
  pub found : List AnyRule
  pub counted : length found ≡ many rules
  pub messages_are : map parts_of rules.plain.items ≡ plain_of found
  pub signals_are : map signal_parts rules.signals.items ≡ signals_of found
  pub read : rules_from all 0 1 (text_lines text)
      ≡ prefixed found (rules_from all (length found) line (text_lines rest))
