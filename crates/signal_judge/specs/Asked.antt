-- What the words behind the name of a signal ask (own choice): `value` with two decimals, or with a label of a signal
-- with names, `step` with a decimal, or what a rule asks of messages, but for `whole`.
use Rattle.std.specs.Prelude.{Bool, true, false, not, List, [], ◌∷◌, drop, codes, if◌then◌else◌}
use Rattle.std.specs.Prelude.{ℤ, pos, int_le, int_lt, Option, None, Some, Ok, Err}
use Rattle.text_lines.specs.Words.{Text, begins_with}
use Rattle.judge_rules.specs.declared.fault.RuleFault.TheVariants.{Word, Range}
use Rattle.judge_rules.specs.declared.rules.Check.{Check}
use Rattle.judge_rules.specs.declared.rules.Check.TheVariants.{Sound}
use Rattle.judge_rules.specs.Checks.{check_in}
use Rattle.judge_rules.specs.Faults.{Read, both, ended, made}
use Rattle.judge_rules.specs.Lines.{is_whole}
use Rattle.signal_dictionary.specs.declared.signals.Kind.{Kind}
use Rattle.signal_dictionary.specs.declared.signals.Kind.TheVariants.{Unsigned, Signed, Decimals, Names}
use Rattle.signal_dictionary.specs.declared.signals.Signal.{Signal}
use Rattle.signal_dictionary.specs.declared.texts.Label.{Label}
use Rattle.signal_dictionary.specs.Decimals.{decimal_of}
use Rattle.signal_dictionary.specs.Texts.{label_of}
use Rattle.signal_values.specs.Amounts.{number_of, units_of}
use Rattle.signal_judge.specs.declared.rules.Asked.{Asked}
use Rattle.signal_judge.specs.declared.rules.Asked.TheVariants.{OfMessages, Between, Told, Step}

-- what is asked of a signal, its numbers in units of 10^-17
pub data Wanted : Type 0 where
  messages : Wanted
  between : ℤ → ℤ → Wanted
  told : Label → Wanted
  step : ℤ → Wanted

abbrev pub wanted_of : Asked → Wanted
wanted_of OfMessages = messages
wanted_of (Between low high) = between (number_of low) (number_of high)
wanted_of (Told label) = told label
wanted_of (Step most) = step (number_of most)

-- the numbers of a signal may have names, or none; a signal that the dictionary lacks may be of any kind
abbrev pub has_names : Kind → Bool
has_names (Unsigned s) = false
has_names (Signed s) = false
has_names (Decimals s) = false
has_names (Names found) = true

abbrev pub may_have_names : Option Kind → Bool
may_have_names None = true
may_have_names (Some kind) = has_names kind

abbrev pub may_have_numbers : Option Kind → Bool
may_have_numbers None = true
may_have_numbers (Some kind) = not (has_names kind)

-- the kind of a signal, where there is one
abbrev pub kind_if : Option Signal → Option Kind
kind_if None = None
kind_if (Some s) = Some s.kind

abbrev pub number_in : Text → Read ℤ
number_in word = made units_of (decimal_of word)

-- two numbers, the least first
abbrev pub in_order : Read (ℤ × ℤ) → Read Wanted
in_order (Err f) = Err f
in_order (Ok (low, high)) = if int_le low high then Ok (between low high) else Err Range

abbrev pub bounds_in : Text → Text → Read Wanted
bounds_in low high = in_order (both (number_in low) (number_in high))

abbrev pub label_in : Text → Read Wanted
label_in word = made told (label_of word)

-- a label alone, or two numbers
abbrev pub value_by : Option Kind → Text → List Text → Read Wanted
value_by kind first [] = if may_have_names kind then label_in first else Err Word
value_by kind first (second ∷ rest) =
    if may_have_numbers kind then ended (bounds_in first second) rest else Err Word

abbrev pub value_in : Option Kind → List Text → Read Wanted
value_in kind [] = Err Word
value_in kind (first ∷ rest) = value_by kind first rest

-- a number that is not below zero
abbrev pub most_of : Read ℤ → Read Wanted
most_of (Err f) = Err f
most_of (Ok most) = if int_lt most (pos 0) then Err Range else Ok (step most)

abbrev pub step_in : Option Kind → List Text → Read Wanted
step_in kind [] = Err Word
step_in kind (word ∷ rest) = if may_have_numbers kind then ended (most_of (number_in word)) rest else Err Word

-- the same of what was read
abbrev pub with_wanted : Asked × Check → Wanted × Check
with_wanted (asked, check) = (wanted_of asked, check)

abbrev pub of_messages : Read Check → Read (Wanted × Check)
of_messages check = if is_whole check then Err Word else made (λ (c : Check). (messages, c)) check

abbrev pub with_value : Read Wanted → Read (Wanted × Check)
with_value wanted = made (λ (w : Wanted). (w, Sound)) wanted

-- what is asked, and the check of messages, `ok` where a value or a step is asked
unfoldable pub asked_in : Option Kind → List Text → Read (Wanted × Check)
asked_in kind rest =
    if begins_with (codes "value") rest then with_value (value_in kind (drop 1 rest))
    else if begins_with (codes "step") rest then with_value (step_in kind (drop 1 rest))
    else of_messages (check_in rest)
