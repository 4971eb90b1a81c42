use Rattle.std.proofs.Common.{◌≡◌, ◌+◌, ◌≤◌, length, map}
use Rattle.text_lines.specs.Lines.{text_lines}
use Rattle.judge_rules.specs.Parts.{parts_of}
use Rattle.judge_rules.specs.Rules.{rules_from}
use Rattle.judge_rules.proofs.Prefixes.{prefixed}
use Rattle.judge_rules.proofs.reading.read_rules.Given as goal

abbrev pub invariant-loop-first : goal.invariant-loop-first
invariant-loop-first l = record {
  most : length l.rules.items ≤ 10000;
  line : l.line + length l.rest ≤ length l.text + 1;
  read : rules_from 0 1 (text_lines l.text) ≡ prefixed (map parts_of l.rules.items) (rules_from (length l.rules.items) l.line (text_lines l.rest));
}

abbrev pub decreases-loop-first : goal.decreases-loop-first
decreases-loop-first l = length l.rest
