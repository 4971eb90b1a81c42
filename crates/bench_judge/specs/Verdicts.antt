-- What becomes of a rule (own choice): which messages of a recording it selects, or which packets, and which of them
-- miss it.
use Rattle.std.specs.Prelude.{◌≡◌, ℕ, ◌+◌, ◌==◌, nat_lt, Bool, not, ◌&&◌, ◌||◌, if◌then◌else◌, List, [], ◌∷◌, length}
use Rattle.std.specs.Prelude.{map, reverse, Option, Some, None, slice_get}
use Rattle.std.specs.List.{filter}
use Rattle.ch11_layout.specs.Stamps.{Recorded, time_of}
use Rattle.ch11_reader.specs.Listing.{listing}
use Rattle.ch11_reader.specs.Recording.{Found}
use Rattle.ch11_reader.specs.declared.packet.Packet.{Packet}
use Rattle.bench_select.specs.Viewed.{Viewed, viewed_in}
use Rattle.judge_rules.specs.declared.rules.Rule.{Rule}
use Rattle.bench_judge.specs.declared.verdicts.Miss.{Miss}
use Rattle.bench_judge.specs.declared.verdicts.RuleVerdict.{RuleVerdict}
use Rattle.bench_judge.specs.Selection.{Origins, selects}
use Rattle.bench_judge.specs.Checks.{compared, counts, is_count, is_counted, is_whole, meets}
use Rattle.bench_judge.specs.Packets.{packets_missed, packets_selected}

-- a message of a recording: its number, counted from 1, and those before it, newest first
pub record Moment : Type 0 where
  pub number : ℕ
  pub channel : ℕ
  pub message : Recorded
  pub earlier : List Viewed

-- each message of a history, newest first, with the messages before it
abbrev pub moments : List Viewed → List Moment
moments [] = []
moments (h ∷ earlier) =
    record { number = length earlier + 1; channel = h.0; message = h.1; earlier = earlier } ∷ moments earlier

-- what is compared with a message, of the newest before it in a channel that a rule selects and that has it
abbrev pub newer : Option ℕ → Option ℕ → Option ℕ
newer None before = before
newer (Some value) before = Some value

abbrev pub latest : Rule → Origins → ℕ → List Viewed → Option ℕ
latest rule origins channel [] = None
latest rule origins channel (h ∷ earlier) =
    if (h.0 == channel) && selects rule origins h.0 h.1
    then newer (compared rule.check h.1) (latest rule origins channel earlier)
    else latest rule origins channel earlier

abbrev pub is_selected : Rule → Origins → Moment → Bool
is_selected rule origins x = selects rule origins x.channel x.message

abbrev pub is_miss : Rule → Origins → Moment → Bool
is_miss rule origins x = not (meets rule.check (latest rule origins x.channel x.earlier) x.message)

-- the messages of a history that a rule selects, those of them that it counts, and those that miss it, newest first
abbrev pub selected : Rule → Origins → List Viewed → List Moment
selected rule origins history = filter (is_selected rule origins) (moments history)

abbrev pub counted : Rule → Origins → List Viewed → List Moment
counted rule origins history =
    filter (λ (x : Moment). is_counted rule.check x.message) (selected rule origins history)

abbrev pub missed : Rule → Origins → List Viewed → List Moment
missed rule origins history = filter (is_miss rule origins) (selected rule origins history)

abbrev pub miss_of : Moment → Miss
miss_of x = record { number = x.number; channel = x.channel; stamp = time_of x.message }

-- the messages that miss a rule, in their order
abbrev pub misses : Rule → Origins → List Viewed → List Miss
misses rule origins history = reverse (map miss_of (missed rule origins history))

-- a recording as it is judged: its messages, newest first, its packets, in their order, and the first times of day of
-- its channels
pub record Passed : Type 0 where
  pub messages : List Viewed
  pub packets : List Packet
  pub origins : Origins

abbrev pub passed_in : Origins → List Found → Passed
passed_in origins ps = record { messages = reverse (viewed_in ps); packets = listing ps; origins = origins }

-- a number of messages, or one of packets where a rule is about these
abbrev pub of_these : Rule → ℕ → ℕ → ℕ
of_these rule messages packets = if is_whole rule.check then packets else messages

-- how many are selected, how many of them are counted, and how many miss the rule
abbrev pub selected_count : Rule → Passed → ℕ
selected_count rule p =
    of_these rule (length (selected rule p.origins p.messages)) (length (packets_selected rule p.packets))

abbrev pub counted_count : Rule → Passed → ℕ
counted_count rule p = length (counted rule p.origins p.messages)

abbrev pub missed_count : Rule → Passed → ℕ
missed_count rule p =
    of_these rule (length (missed rule p.origins p.messages)) (length (packets_missed rule p.packets))

-- nothing misses the rule, a count is met, and any other rule selects one at least
abbrev pub is_held : Rule → ℕ → ℕ → ℕ → Bool
is_held rule selected counted missed =
    (missed == 0) && counts rule.check counted && (is_count rule.check || nat_lt 0 selected)

-- the verdict of a rule that selects so many, counts so many of them, and of which so many miss it
pub record IsVerdictWith (rule : Rule) (selected counted missed : ℕ) (verdict : RuleVerdict) : Type 0 where
  pub line : verdict.line ≡ rule.line
  pub selects : verdict.selected ≡ selected
  pub counting : verdict.counted ≡ counted
  pub misses : verdict.missed ≡ missed
  pub miscounts : verdict.miscounted ≡ not (counts rule.check counted)
  pub holds : verdict.held ≡ is_held rule selected counted missed

-- the verdict of a rule on a recording
abbrev pub IsVerdict : Rule → Passed → RuleVerdict → Type 0
IsVerdict rule p verdict =
    IsVerdictWith rule (selected_count rule p) (counted_count rule p) (missed_count rule p) verdict

-- a verdict for each rule, in their order
pub record AreVerdicts (rules : List Rule) (p : Passed) (verdicts : List RuleVerdict) : Type 0 where
  pub many : length verdicts ≡ length rules
  pub each : (place : ℕ) (rule : Rule) (verdict : RuleVerdict) → slice_get rules place ≡ Some rule
      → slice_get verdicts place ≡ Some verdict → IsVerdict rule p verdict

-- how many of these verdicts are of rules that are not held
abbrev pub not_held : List RuleVerdict → ℕ
not_held [] = 0
not_held (verdict ∷ verdicts) = (if verdict.held then 0 else 1) + not_held verdicts

-- a rule is held on a recording
abbrev pub holds : Rule → Passed → Bool
holds rule p = is_held rule (selected_count rule p) (counted_count rule p) (missed_count rule p)

-- how many rules are not held on a recording
abbrev pub rules_not_held : List Rule → Passed → ℕ
rules_not_held [] p = 0
rules_not_held (rule ∷ rules) p = (if holds rule p then 0 else 1) + rules_not_held rules p
