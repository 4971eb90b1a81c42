-- The rules of a text that may name signals, by their parts, or its first fault (own choice): `signal` and a name may
-- stand in the place of a selector.
use Rattle.std.specs.Prelude.{◌≡◌, ℕ, ◌+◌, ◌<◌, ◌==◌, Bool, ◌&&◌, if◌then◌else◌, List, [], ◌∷◌, drop, codes, map}
use Rattle.std.specs.Prelude.{slice_get, Option, None, Some, Result, Ok, Err, ◌⊎◌}
use Rattle.std.specs.Borrow.{Bor}
use Rattle.std.specs.Str.{bytes_eq}
use Rattle.text_lines.specs.Lines.{text_lines}
use Rattle.text_lines.specs.Words.{Text, begins_with, words}
use Rattle.mil_word.specs.declared.Line.{Line}
use Rattle.judge_rules.specs.declared.fault.RuleError.{RuleError}
use Rattle.judge_rules.specs.declared.fault.RuleFault.{RuleFault}
use Rattle.judge_rules.specs.declared.fault.RuleFault.TheVariants.{Word, Range, Memory}
use Rattle.judge_rules.specs.declared.rules.Check.{Check}
use Rattle.judge_rules.specs.declared.rules.Span.{Span}
use Rattle.judge_rules.specs.Faults.{Read, both, made}
use Rattle.judge_rules.specs.Lines as lines
use Rattle.judge_rules.specs.Lines.{behind_channel, bus_in, channel_in, from_selector, from_times, is_passed_over}
use Rattle.judge_rules.specs.Parts.{Parts, of_these, parts_of}
use Rattle.judge_rules.specs.Spans.{span_in}
use Rattle.signal_dictionary.specs.declared.signals.Signal.{Signal}
use Rattle.signal_judge.specs.declared.rules.AllRules.{AllRules}
use Rattle.signal_judge.specs.declared.rules.SignalRule.{SignalRule}
use Rattle.signal_judge.specs.declared.rules.Asked.{Asked}
use Rattle.signal_judge.specs.Asked.{Wanted, asked_in, kind_if, wanted_of, with_wanted}

-- a rule about messages, or one about a signal
pub record SignalParts : Type 0 where
  pub rule : Parts
  pub signal : Signal
  pub wanted : Wanted

pub data AnyRule : Type 0 where
  about_messages : Parts → AnyRule
  about_signal : SignalParts → AnyRule

abbrev pub signal_parts : SignalRule → SignalParts
signal_parts r = record { rule = parts_of r.rule; signal = r.signal.now; wanted = wanted_of r.asked }

abbrev pub line_of : AnyRule → ℕ
line_of (about_messages rule) = rule.line
line_of (about_signal rule) = rule.rule.line

-- the first signal of a name
abbrev pub named : List Signal → Text → Option Signal
named [] name = None
named (s ∷ others) name = if bytes_eq s.name.bytes.items name then Some s else named others name

-- a signal and what is asked of it, as they are read
abbrev pub what_of : Bor Signal × (Asked × Check) → Signal × (Wanted × Check)
what_of x = (x.0.now, with_wanted x.1)

-- one that the dictionary lacks is out of range
abbrev pub known : Option Signal → Read Signal
known None = Err Range
known (Some s) = Ok s

-- `signal` stands in the place of a selector
abbrev pub is_of_signal : List Text → Bool
is_of_signal rest =
    begins_with (codes "expect") rest && begins_with (codes "signal") (from_selector (drop 1 rest))

-- what stands in front of the signal: perhaps a channel, perhaps a line of the bus, perhaps times
abbrev pub Place : Type 0
Place = (Option ℕ × Option Line) × Span

abbrev pub place_in : List Text → Read Place
place_in rest = both (both (channel_in rest) (bus_in (behind_channel rest))) (span_in (from_times rest))

abbrev pub Told : Type 0
Told = Place × (Signal × (Wanted × Check))

abbrev pub with_line : ℕ → Told → SignalParts
with_line line (((channel, bus), span), (signal, (wanted, check))) =
    record { rule = of_these line channel bus span signal.selector check; signal = signal; wanted = wanted }

abbrev pub asked_of : Option Signal → List Text → Read (Signal × (Wanted × Check))
asked_of signal behind = both (known signal) (asked_in (kind_if signal) behind)

-- the words behind `signal`: a name, and what is asked
abbrev pub what_in : List Signal → List Text → Read (Signal × (Wanted × Check))
what_in all [] = Err Word
what_in all (name ∷ behind) = asked_of (named all name) behind

abbrev pub told_in : List Signal → List Text → List Text → Read Told
told_in all rest behind = both (place_in rest) (what_in all behind)

unfoldable pub signal_rule_in : List Signal → ℕ → List Text → Read SignalParts
signal_rule_in all line rest =
    made (with_line line) (told_in all (drop 1 rest) (drop 1 (from_selector (drop 1 rest))))

abbrev pub rule_in : List Signal → ℕ → List Text → Read AnyRule
rule_in all line rest =
    if is_of_signal rest then made about_signal (signal_rule_in all line rest)
    else made about_messages (lines.rule_in line rest)

-- what a line of this number says, if it isn't passed over
unfoldable pub said : List Signal → ℕ → Text → Option (Read AnyRule)
said all line text = if is_passed_over text then None else Some (rule_in all line (words text))

abbrev pub Found : Type 0
Found = Result (List AnyRule) RuleError

abbrev pub fault_at : ℕ → RuleFault → Found
fault_at line fault = Err (record { fault = fault; line = line })

abbrev pub in_front : AnyRule → Found → Found
in_front rule (Ok rules) = Ok (rule ∷ rules)
in_front rule (Err e) = Err e

-- what a line says, which stands behind so many rules; what follows it is read as behind as many rules, or as behind
-- one more
abbrev pub taken : ℕ → ℕ → Option (Read AnyRule) → Found → Found → Found
taken before line None same more = same
taken before line (Some (Err fault)) same more = fault_at line fault
taken before line (Some (Ok rule)) same more = if before == 10000 then fault_at line Range else in_front rule more

-- the rules of lines, the first of this number, behind so many rules; there has to be one
abbrev pub rules_from : List Signal → ℕ → ℕ → List Text → Found
rules_from all before line [] = if before == 0 then fault_at line Word else Ok []
rules_from all before line (text ∷ rest) =
    taken before line (said all line text) (rules_from all before (line + 1) rest)
    (rules_from all (before + 1) (line + 1) rest)

unfoldable pub rules_in : List Signal → Text → Found
rules_in all text = rules_from all 0 1 (text_lines text)

-- those about messages, and those about signals, each in their order
abbrev pub plain_of : List AnyRule → List Parts
plain_of [] = []
plain_of (about_messages rule ∷ rules) = rule ∷ plain_of rules
plain_of (about_signal rule ∷ rules) = plain_of rules

abbrev pub signals_of : List AnyRule → List SignalParts
signals_of [] = []
signals_of (about_messages rule ∷ rules) = signals_of rules
signals_of (about_signal rule ∷ rules) = rule ∷ signals_of rules

-- these are the rules that were found, each kind in its order
abbrev pub AreRules : AllRules → Found → Type 0
AreRules all (Ok found) =
    (map parts_of all.plain.items ≡ plain_of found) × (map signal_parts all.signals.items ≡ signals_of found)
AreRules all (Err e) = ⊥

-- one of these rules stands in this line
abbrev pub HasLine : ℕ → List AnyRule → Type 0
HasLine line rules = (place : ℕ) × ((rule : AnyRule) × ((slice_get rules place ≡ Some rule) × (line_of rule ≡ line)))

-- an answer that gives no rules: the first fault of the text; or want of memory, in front of that fault, or where there
-- is none at the line of a rule
abbrev pub IsFaultOf : RuleError → Found → Type 0
IsFaultOf e (Ok rules) = (e.fault ≡ Memory) × HasLine e.line rules
IsFaultOf e (Err first) = (e ≡ first) ⊎ ((e.fault ≡ Memory) × (e.line < first.line))
