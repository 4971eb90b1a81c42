-- What is printed of verdicts (own choice).
use Rattle.std.specs.Prelude.{ℕ, if◌then◌else◌, List, [], ◌∷◌, ◌++◌, length, codes, decimal, Option, None, Some}
use Rattle.std.specs.List.{flat_map}
use Rattle.judge_rules.specs.declared.rules.Rule.{Rule}
use Rattle.bench_judge.specs.declared.verdicts.Miss.{Miss}
use Rattle.ch11_reader.specs.declared.packet.Packet.{Packet}
use Rattle.ch11_reader.specs.declared.skip.Skip.{Skip}
use Rattle.bench_judge.specs.Checks.{counts, is_whole}
use Rattle.bench_judge.specs.Packets.{packets_missed}
use Rattle.bench_judge.specs.Skips.{file_place}
use Rattle.bench_judge.specs.Verdicts.{Passed, counted_count, misses, missed_count, rules_not_held, selected_count}

-- when a message began, '-' where that is not known
abbrev pub stamp_text : Option ℕ → List ℕ
stamp_text None = codes "-"
stamp_text (Some ticks) = decimal ticks

-- a message that misses the rule of a line
abbrev pub miss_line : ℕ → Miss → List ℕ
miss_line line x =
    codes "missed " ++ (decimal line ++ (codes " message " ++ (decimal x.number
    ++ (codes " channel " ++ (decimal x.channel ++ (codes " stamp " ++ (stamp_text x.stamp ++ codes "\n")))))))

-- how many messages a rule selects, and how many miss it, or 1 for a count that is not met
abbrev pub rule_line : ℕ → ℕ → ℕ → List ℕ
rule_line line selected missed =
    codes "rule " ++ (decimal line
    ++ (codes " selected " ++ (decimal selected ++ (codes " missed " ++ (decimal missed ++ codes "\n")))))

-- a packet that misses the rule of a line, by where it begins in a file of which these bytes were skipped
abbrev pub packet_line : List Skip → ℕ → Packet → List ℕ
packet_line skips line p =
    codes "missed " ++ (decimal line ++ (codes " packet " ++ (decimal (file_place skips p.offset)
    ++ (codes " channel " ++ (decimal p.header.channel ++ codes "\n")))))

-- a count that is not met
abbrev pub count_lines : ℕ → ℕ → ℕ → List ℕ
count_lines line selected counted =
    codes "missed " ++ (decimal line ++ (codes " count " ++ (decimal counted ++ (codes "\nrule " ++ (decimal line
    ++ (codes " selected " ++ (decimal selected ++ codes " missed 1\n")))))))

-- the messages that miss a rule, or the packets where it is about these
abbrev pub missed_lines : List Skip → Rule → Passed → List ℕ
missed_lines skips rule p =
    if is_whole rule.check then flat_map (packet_line skips rule.line) (packets_missed rule p.packets)
    else flat_map (miss_line rule.line) (misses rule p.origins p.messages)

-- the lines of a rule on a recording: one for each message or packet that misses it, or one for a count that is not
-- met, and one with its numbers
abbrev pub verdict_lines : List Skip → Rule → Passed → List ℕ
verdict_lines skips rule p =
    if counts rule.check (counted_count rule p)
    then missed_lines skips rule p ++ rule_line rule.line (selected_count rule p) (missed_count rule p)
    else count_lines rule.line (selected_count rule p) (counted_count rule p)

-- the lines of all rules
abbrev pub rules_lines : List Skip → List Rule → Passed → List ℕ
rules_lines skips [] p = []
rules_lines skips (rule ∷ rules) p = verdict_lines skips rule p ++ rules_lines skips rules p

-- the line behind them: how many rules there are, and how many are not held
abbrev pub last_line : ℕ → ℕ → List ℕ
last_line rules missed = codes "rules " ++ (decimal rules ++ (codes " missed " ++ (decimal missed ++ codes "\n")))

-- what is printed of rules on a recording
abbrev pub verdict_text : List Skip → List Rule → Passed → List ℕ
verdict_text skips rules p = rules_lines skips rules p ++ last_line (length rules) (rules_not_held rules p)
