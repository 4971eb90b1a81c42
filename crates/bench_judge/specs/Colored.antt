-- What is shown of verdicts at a terminal (own choice). Of the messages that miss a rule it is open how they are shown.
use Rattle.std.specs.Prelude.{◌≡◌, ℕ, ◌-◌, ◌==◌, ◌||◌, nat_lt, Bool, if◌then◌else◌, List, [], ◌∷◌, ◌++◌, length, map}
use Rattle.std.specs.Prelude.{codes, decimal, Option}
use Rattle.std.specs.Io.KnownBytes.{Appends}
use Rattle.text_lines.specs.Words.{Text}
use Rattle.judge_rules.specs.declared.rules.Check.{Check}
use Rattle.judge_rules.specs.declared.rules.Rule.{Rule}
use Rattle.bench_judge.specs.declared.verdicts.RuleVerdict.{RuleVerdict}
use Rattle.bench_judge.specs.Names.{rule_text}
use Rattle.bench_judge.specs.Told.{told_count}
use Rattle.bench_judge.specs.Verdicts.{not_held}

-- green where all is held, red where it is not
abbrev pub color_of : Bool → List ℕ
color_of held = if held then 27 ∷ codes "[32m" else 27 ∷ codes "[31m"

abbrev pub plain : List ℕ
plain = 27 ∷ codes "[0m"

abbrev pub word_of : Bool → List ℕ
word_of held = if held then codes "held   " else codes "missed "

-- a byte that would steer the terminal is a question mark
abbrev pub steady : ℕ → ℕ
steady byte = if nat_lt byte 32 || byte == 127 then 63 else byte

unfoldable pub why : Check → RuleVerdict → List ℕ
why check v =
    if v.miscounted then codes ", " ++ told_count check v.counted
    else if nat_lt 0 v.missed then codes ", " ++ (decimal v.missed ++ codes " missed")
    else []

unfoldable pub mark : Bool → List ℕ
mark held = color_of held ++ (word_of held ++ plain)

unfoldable pub numbers : Check → RuleVerdict → List ℕ
numbers check v = codes "  (" ++ (decimal v.selected ++ (codes " selected" ++ (why check v ++ codes ")\n")))

-- a rule by its text: held or missed, as its verdict has it
unfoldable pub rule_shown : Text → Check → RuleVerdict → List ℕ
rule_shown name check v = mark v.held ++ (map steady name ++ numbers check v)

-- how many more messages miss a rule than are shown
unfoldable pub more_shown : ℕ → List ℕ
more_shown missed =
    if nat_lt 3 missed then codes "      and " ++ (decimal (missed - 3) ++ codes " more\n") else []

unfoldable pub last_shown : List RuleVerdict → List ℕ
last_shown verdicts =
    color_of (not_held verdicts == 0) ++ (decimal (length verdicts) ++ (codes " rules, "
    ++ (decimal (not_held verdicts) ++ (codes " not held" ++ (plain ++ codes "\n")))))

-- a rule with some lines of messages or packets that miss it, none where none does
pub record IsRuleShown (name : Text) (check : Check) (v : RuleVerdict) (shown : List ℕ) : Type 0 where
  pub messages : List ℕ
  pub none : v.missed ≡ 0 → messages ≡ []
  pub split : shown ≡ rule_shown name check v ++ (messages ++ more_shown v.missed)

-- each rule by its text, in their order
pub data AreShown (text : Text) : List Rule → List RuleVerdict → List ℕ → Type 0 where
  NoneShown : AreShown text [] [] []
  OneShown : (rule : Rule) (rules : List Rule) (v : RuleVerdict) (vs : List RuleVerdict) (shown others : List ℕ)
      → IsRuleShown (rule_text text v.line) rule.check v shown → AreShown text rules vs others
      → AreShown text (rule ∷ rules) (v ∷ vs) (shown ++ others)

-- all of it
pub record IsColored (text : Text) (rules : List Rule) (verdicts : List RuleVerdict) (shown : List ℕ) : Type 0 where
  pub lines : List ℕ
  pub each : AreShown text rules verdicts lines
  pub split : shown ≡ lines ++ last_shown verdicts

-- a writer got some bytes that are so
abbrev pub AppendsSome : (List ℕ → Type 0) → Option (List ℕ) → Option (List ℕ) → Type 0
AppendsSome is got gets = (shown : List ℕ) × (is shown × Appends got gets shown)
