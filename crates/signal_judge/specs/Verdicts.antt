-- What becomes of a rule about a signal (own choice): which messages of a recording have the signal, and which of them
-- miss the rule. A history of messages stands newest first.
use Rattle.std.specs.Prelude.{◌≡◌, ℕ, ◌==◌, Bool, true, false, not, ◌&&◌, int_le, if◌then◌else◌, ℤ}
use Rattle.std.specs.Prelude.{List, [], ◌∷◌, length, map, reverse, slice_get, Option, Some, None}
use Rattle.std.specs.List.{filter}
use Rattle.std.specs.Str.{bytes_eq}
use Rattle.ch11_layout.specs.Stamps.{Recorded}
use Rattle.bench_judge.specs.Selection.{Origins}
use Rattle.bench_select.specs.Selecting.{is_in_span}
use Rattle.bench_select.specs.Selectors.{is_chosen, is_on}
use Rattle.judge_rules.specs.declared.rules.Rule.{Rule}
use Rattle.bench_select.specs.Signals.{has_signal, value_in}
use Rattle.bench_select.specs.Viewed.{Viewed}
use Rattle.signal_dictionary.specs.declared.signals.Kind.{Kind}
use Rattle.signal_values.specs.Amounts.{are_within, number_of}
use Rattle.signal_values.specs.Readings.{Value, nothing, number, named}
use Rattle.signal_values.specs.Texts.{value_text}
use Rattle.signal_values.specs.declared.exact.Amount.{Amount}
use Rattle.bench_judge.specs.Checks as checks
use Rattle.bench_judge.specs.Checks.{compared, is_counted}
use Rattle.bench_judge.specs.Verdicts.{IsVerdictWith, Moment, miss_of, moments, newer}
use Rattle.bench_judge.specs.declared.verdicts.Miss.{Miss}
use Rattle.bench_judge.specs.declared.verdicts.RuleVerdict.{RuleVerdict}
use Rattle.signal_judge.specs.declared.rules.Asked.{Asked}
use Rattle.signal_judge.specs.declared.rules.Asked.TheVariants.{OfMessages, Between, Told, Step}
use Rattle.signal_judge.specs.declared.rules.SignalRule.{SignalRule}

-- a message of the channel, the line and the times of a rule
abbrev pub is_here : Rule → Origins → ℕ → Recorded → Bool
is_here rule origins channel m =
    is_chosen rule.channel channel && is_on rule.bus m.block && is_in_span rule.span origins channel m

-- such a message that has the signal
abbrev pub selects : SignalRule → Origins → ℕ → Recorded → Bool
selects r origins channel m =
    is_here r.rule origins channel m && has_signal r.signal.now channel m

-- the number that a signal is, where it has a value
abbrev pub number_if : Option Value → Option ℤ
number_if None = None
number_if (Some nothing) = None
number_if (Some (number z)) = Some z
number_if (Some (named n)) = None

abbrev pub number_in : SignalRule → ℕ → Recorded → Option ℤ
number_in r channel m = number_if (value_in r.signal.now channel m)

abbrev pub first_number : Option ℤ → Option ℤ → Option ℤ
first_number None other = other
first_number (Some z) other = Some z

-- the number of the newest message of a channel that a rule selects and that has one
abbrev pub told_number : SignalRule → Origins → ℕ → Viewed → Option ℤ
told_number r origins channel h = if (h.0 == channel) && selects r origins h.0 h.1 then number_in r h.0 h.1 else None

abbrev pub latest_number : SignalRule → Origins → ℕ → List Viewed → Option ℤ
latest_number r origins channel [] = None
latest_number r origins channel (h ∷ earlier) =
    first_number (told_number r origins channel h) (latest_number r origins channel earlier)

-- what is compared with a message, of the newest before it in a channel that a rule selects and that has it
abbrev pub latest : SignalRule → Origins → ℕ → List Viewed → Option ℕ
latest r origins channel [] = None
latest r origins channel (h ∷ earlier) =
    if (h.0 == channel) && selects r origins h.0 h.1
    then newer (compared r.rule.check h.1) (latest r origins channel earlier)
    else latest r origins channel earlier

-- a number in bounds; it is told by a text; it differs from the one before by so much at most, where there is one
abbrev pub is_between : Amount → Amount → Option ℤ → Bool
is_between low high None = false
is_between low high (Some z) = int_le (number_of low) z && int_le z (number_of high)

abbrev pub is_told : List ℕ → Kind → Option Value → Bool
is_told label kind None = false
is_told label kind (Some v) = bytes_eq (value_text kind v) label

abbrev pub is_within : Amount → Option ℤ → ℤ → Bool
is_within most None z = true
is_within most (Some before) z = are_within (number_of most) z before

abbrev pub is_step : Amount → Option ℤ → Option ℤ → Bool
is_step most before None = false
is_step most before (Some z) = is_within most before z

-- what is asked of a signal is met by its value in a message of a channel behind others
abbrev pub meets_by : Asked → SignalRule → Origins → List Viewed → ℕ → Recorded → Bool
meets_by OfMessages r origins earlier channel m =
    checks.meets r.rule.check (latest r origins channel earlier) m
meets_by (Between low high) r origins earlier channel m = is_between low high (number_in r channel m)
meets_by (Told label) r origins earlier channel m =
    is_told label.bytes.items r.signal.now.kind (value_in r.signal.now channel m)
meets_by (Step most) r origins earlier channel m =
    is_step most (latest_number r origins channel earlier) (number_in r channel m)

abbrev pub meets : SignalRule → Origins → List Viewed → ℕ → Recorded → Bool
meets r origins earlier channel m = meets_by r.asked r origins earlier channel m

-- the messages of a history that a rule selects, those of them that it counts, and those that miss it, newest first
abbrev pub is_selected : SignalRule → Origins → Moment → Bool
is_selected r origins x = selects r origins x.channel x.message

abbrev pub is_miss : SignalRule → Origins → Moment → Bool
is_miss r origins x = not (meets r origins x.earlier x.channel x.message)

abbrev pub selected : SignalRule → Origins → List Viewed → List Moment
selected r origins history = filter (is_selected r origins) (moments history)

abbrev pub counted : SignalRule → Origins → List Viewed → List Moment
counted r origins history =
    filter (λ (x : Moment). is_counted r.rule.check x.message) (selected r origins history)

abbrev pub missed : SignalRule → Origins → List Viewed → List Moment
missed r origins history = filter (is_miss r origins) (selected r origins history)

-- those that miss it in their order
abbrev pub misses : SignalRule → Origins → List Viewed → List Miss
misses r origins history = reverse (map miss_of (missed r origins history))

-- how many of those that it selects it counts: none where a value is asked
abbrev pub counted_by : Asked → SignalRule → Origins → List Viewed → ℕ
counted_by OfMessages r origins history = length (counted r origins history)
counted_by (Between low high) r origins history = 0
counted_by (Told label) r origins history = 0
counted_by (Step most) r origins history = 0

abbrev pub counted_count : SignalRule → Origins → List Viewed → ℕ
counted_count r origins history = counted_by r.asked r origins history

-- the verdict, as of other rules
abbrev pub IsVerdict : SignalRule → Origins → List Viewed → RuleVerdict → Type 0
IsVerdict r origins history verdict =
    IsVerdictWith r.rule (length (selected r origins history)) (counted_count r origins history)
    (length (missed r origins history)) verdict

-- a verdict for each rule, in their order
pub record AreVerdicts (rules : List SignalRule) (origins : Origins) (history : List Viewed)
    (verdicts : List RuleVerdict) : Type 0 where
  pub many : length verdicts ≡ length rules
  pub each : (place : ℕ) (r : SignalRule) (verdict : RuleVerdict) → slice_get rules place ≡ Some r
      → slice_get verdicts place ≡ Some verdict → IsVerdict r origins history verdict
