-- The rule of a line (own choice): `expect`, perhaps a channel, perhaps a line of the bus, perhaps times, a selector
-- and a check.
use Rattle.std.specs.Prelude.{ℕ, Bool, true, false, not, ◌&&◌, List, [], ◌∷◌, drop, Ok, Err, Option, Some, None, codes}
use Rattle.std.specs.Prelude.{if◌then◌else◌}
use Rattle.std.specs.Str.{bytes_eq}
use Rattle.judge_rules.specs.declared.fault.RuleFault.TheVariants.{Word}
use Rattle.mil_word.specs.declared.Line.{Line}
use Rattle.mil_word.specs.declared.Line.TheVariants as line
use Rattle.judge_rules.specs.declared.rules.Selector.{Selector}
use Rattle.judge_rules.specs.declared.rules.Selector.TheVariants.{Any}
use Rattle.judge_rules.specs.declared.rules.Span.{Span}
use Rattle.judge_rules.specs.declared.rules.Check.{Check}
use Rattle.judge_rules.specs.declared.rules.Check.TheVariants.{Whole}
use Rattle.judge_rules.specs.Faults.{Read, both, made}
use Rattle.judge_rules.specs.Parts.{Parts, of_these}
use Rattle.judge_rules.specs.Values.{number_in}
use Rattle.text_lines.specs.Words.{Text, words, begins_with, is_comment}
use Rattle.judge_rules.specs.Selectors.{selector_in, behind_selector}
use Rattle.judge_rules.specs.Checks.{check_in}
use Rattle.judge_rules.specs.Spans.{span_in, behind_span}

-- the channel, where the words begin with one
abbrev pub channel_in : List Text → Read (Option ℕ)
channel_in rest = if begins_with (codes "channel") rest then made Some (number_in 1 65535 (drop 1 rest)) else Ok None

abbrev pub behind_channel : List Text → List Text
behind_channel rest = if begins_with (codes "channel") rest then drop 2 rest else rest

abbrev pub bus_of : Text → Read (Option Line)
bus_of word =
    if bytes_eq word (codes "A") then Ok (Some line.A)
    else if bytes_eq word (codes "B") then Ok (Some line.B)
    else Err Word

abbrev pub first_bus : List Text → Read (Option Line)
first_bus [] = Err Word
first_bus (word ∷ rest) = bus_of word

-- the line of the bus, where the words begin with one
abbrev pub bus_in : List Text → Read (Option Line)
bus_in rest = if begins_with (codes "line") rest then first_bus (drop 1 rest) else Ok None

abbrev pub behind_bus : List Text → List Text
behind_bus rest = if begins_with (codes "line") rest then drop 2 rest else rest

-- nothing is read that leaves a message out
abbrev pub is_any_bus : Read (Option Line) → Bool
is_any_bus (Ok None) = true
is_any_bus (Ok (Some bus)) = false
is_any_bus (Err f) = false

abbrev pub is_none : Option ℕ → Bool
is_none None = true
is_none (Some tick) = false

abbrev pub is_any_time : Read Span → Bool
is_any_time (Ok span) = is_none span.from && is_none span.to
is_any_time (Err f) = false

abbrev pub is_any : Selector → Bool
is_any Any = true
is_any _ = false

abbrev pub is_any_message : Read Selector → Bool
is_any_message (Ok selector) = is_any selector
is_any_message (Err f) = false

abbrev pub asks_whole : Check → Bool
asks_whole Whole = true
asks_whole _ = false

abbrev pub is_whole : Read Check → Bool
is_whole (Ok check) = asks_whole check
is_whole (Err f) = false

-- `whole` stands behind `any`, without a line of the bus and without times
abbrev pub fitting : Read (Option Line) → Read Span → Read Selector → Read Check → Read Check
fitting bus span selector check =
    if is_whole check && not (is_any_bus bus && is_any_time span && is_any_message selector) then Err Word else check

-- a channel, a line of the bus and times, a selector and a check
abbrev pub Expected : Type 0
Expected = ((Option ℕ × Option Line) × Span) × (Selector × Check)

-- what follows the line of the bus, and what the times
abbrev pub from_times : List Text → List Text
from_times rest = behind_bus (behind_channel rest)

abbrev pub from_selector : List Text → List Text
from_selector rest = behind_span (from_times rest)

-- the check, where it may stand
abbrev pub fitting_in : List Text → Read Check
fitting_in rest =
    fitting (bus_in (behind_channel rest)) (span_in (from_times rest)) (selector_in (from_selector rest))
    (check_in (behind_selector (from_selector rest)))

-- what the words behind `expect` spell
unfoldable pub expected_in : List Text → Read Expected
expected_in rest =
    both (both (both (channel_in rest) (bus_in (behind_channel rest))) (span_in (from_times rest)))
    (both (selector_in (from_selector rest)) (fitting_in rest))

-- the parts of the rule of a line of this number
abbrev pub with_line : ℕ → Expected → Parts
with_line line (((channel, bus), span), (selector, check)) = of_these line channel bus span selector check

abbrev pub rule_behind : ℕ → List Text → Read Parts
rule_behind line rest = made (with_line line) (expected_in rest)

unfoldable pub rule_in : ℕ → List Text → Read Parts
rule_in line rest = if begins_with (codes "expect") rest then rule_behind line (drop 1 rest) else Err Word

-- a line without words, or one whose first begins with `#`
abbrev pub has_no_rule : List Text → Bool
has_no_rule [] = true
has_no_rule (word ∷ rest) = is_comment word

abbrev pub is_passed_over : Text → Bool
is_passed_over text = has_no_rule (words text)

-- what a line of this number says, if it isn't passed over
unfoldable pub said : ℕ → Text → Option (Read Parts)
said line text = if is_passed_over text then None else Some (rule_in line (words text))
