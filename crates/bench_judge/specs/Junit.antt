-- The JUnit file of verdicts (own choice): a test case a rule, named by its text.
use Rattle.std.specs.Prelude.{ℕ, zero, suc, ◌-◌, ◌==◌, if◌then◌else◌, List, [], ◌∷◌, ◌++◌, length, take, reverse, codes}
use Rattle.std.specs.Prelude.{decimal}
use Rattle.std.specs.List.{flat_map}
use Rattle.ch11_reader.specs.declared.skip.Skip.{Skip}
use Rattle.text_lines.specs.Words.{Text}
use Rattle.judge_rules.specs.declared.rules.Check.{Check}
use Rattle.judge_rules.specs.declared.rules.Rule.{Rule}
use Rattle.bench_judge.specs.declared.losses.Lost.{Lost}
use Rattle.bench_judge.specs.declared.verdicts.RuleVerdict.{RuleVerdict}
use Rattle.bench_judge.specs.Losses.{is_any, lost_text}
use Rattle.bench_judge.specs.Names.{rule_text}
use Rattle.bench_judge.specs.Checks.{is_whole}
use Rattle.bench_judge.specs.Packets.{packets_missed}
use Rattle.bench_judge.specs.Told.{told_count, told_moment, told_packet}
use Rattle.bench_judge.specs.Verdicts.{Passed, missed, not_held}
use Rattle.bench_judge.specs.Characters.{character_len}

-- ---- a text as the value of an attribute

abbrev pub shown_byte : ℕ → List ℕ
shown_byte byte =
    if byte == 38 then codes "&amp;"
    else if byte == 60 then codes "&lt;"
    else if byte == 62 then codes "&gt;"
    else if byte == 34 then codes "&quot;"
    else byte ∷ []

-- the first byte of some, which begins a character of so many bytes, or is part of none
abbrev pub first_shown : ℕ → ℕ → List ℕ
first_shown len byte = if len == 0 then codes "?" else shown_byte byte

-- bytes of which the first so many belong to the character before them
abbrev pub escaped_behind : ℕ → List ℕ → List ℕ
escaped_behind inside [] = []
escaped_behind zero (byte ∷ bytes) = first_shown (character_len (byte ∷ bytes)) byte
    ++ escaped_behind (character_len (byte ∷ bytes) - 1) bytes
escaped_behind (suc inside) (byte ∷ bytes) = byte ∷ escaped_behind inside bytes

abbrev pub escaped : Text → List ℕ
escaped text = escaped_behind 0 text

-- ---- test cases

-- a rule selects nothing
abbrev pub nothing_told : Check → List ℕ
nothing_told check = if is_whole check then codes "no packet is selected" else codes "no message is selected"

-- why a rule is not held
unfoldable pub reason : Check → RuleVerdict → List ℕ
reason check v =
    if v.miscounted then told_count check v.counted
    else if v.missed == 0 then nothing_told check
    else codes "selected " ++ (decimal v.selected ++ (codes " missed " ++ decimal v.missed))

-- where the rule stands: the file of the rules, the line, and the rule
unfoldable pub place_of_rule : Text → ℕ → Text → List ℕ
place_of_rule file line name = escaped file ++ (codes ":" ++ (decimal line ++ (codes ": " ++ escaped name)))

unfoldable pub failure_text : Text → Text → RuleVerdict → List ℕ → List ℕ
failure_text file name v told =
    place_of_rule file v.line name ++ (told ++ codes "</failure>\n  </testcase>\n")

unfoldable pub failure : Text → Text → Check → RuleVerdict → List ℕ → List ℕ
failure file name check v told =
    codes "\">\n    <failure message=\"" ++ (reason check v ++ (codes "\">" ++ failure_text file name v told))

unfoldable pub case_head : RuleVerdict → Text → List ℕ
case_head v name =
    codes "  <testcase classname=\"line " ++ (decimal v.line ++ (codes "\" name=\"" ++ escaped name))

-- a test case passes where its rule is held, and fails where it is not
abbrev pub case_end : Text → Text → Check → RuleVerdict → List ℕ → List ℕ
case_end file name check v told = if v.held then codes "\"/>\n" else failure file name check v told

-- what is told of the first messages that miss a rule, so many of them, or of the first packets
abbrev pub told_first : List Skip → ℕ → Rule → Passed → List ℕ
told_first skips most rule p =
    if is_whole rule.check then flat_map (told_packet skips) (take most (packets_missed rule p.packets))
    else flat_map (told_moment rule p.origins) (take most (reverse (missed rule p.origins p.messages)))

-- of the first hundred, and nothing where none misses it
abbrev pub told_lines : List Skip → Rule → RuleVerdict → Passed → List ℕ
told_lines skips rule v p = if v.missed == 0 then [] else told_first skips 100 rule p

abbrev pub case_text : Text → Text → List Skip → Rule → RuleVerdict → Passed → List ℕ
case_text file text skips rule v p = case_head v (rule_text text v.line)
    ++ case_end file (rule_text text v.line) rule.check v (told_lines skips rule v p)

-- a test case for each rule and its verdict, in their order
abbrev pub cases : Text → Text → List Skip → List Rule → List RuleVerdict → Passed → List ℕ
cases file text skips [] verdicts p = []
cases file text skips (rule ∷ rules) [] p = []
cases file text skips (rule ∷ rules) (v ∷ verdicts) p =
    case_text file text skips rule v p ++ cases file text skips rules verdicts p

-- ---- the file

unfoldable pub missing : Lost → List ℕ
missing lost =
    codes "  <properties>\n    <property name=\"messages missing\" value=\""
    ++ (lost_text lost ++ codes "\"/>\n  </properties>\n")

-- a property where messages are missing
abbrev pub properties : Lost → List ℕ
properties lost = if is_any lost then missing lost else []

unfoldable pub suite_head : List RuleVerdict → List ℕ
suite_head verdicts =
    codes "<?xml version=\"1.0\" encoding=\"UTF-8\"?>\n<testsuite name=\"bench judge\" tests=\""
    ++ (decimal (length verdicts) ++ (codes "\" failures=\"" ++ (decimal (not_held verdicts) ++ codes "\">\n")))

-- the file of rules, which the text of a file spells, with the verdict on each on a recording, of whose file these
-- bytes were skipped
unfoldable pub junit : Text → Text → List Skip → List Rule → List RuleVerdict → Lost → Passed → List ℕ
junit file text skips rules verdicts lost p =
    suite_head verdicts
    ++ (properties lost ++ (cases file text skips rules verdicts p ++ codes "</testsuite>\n"))
