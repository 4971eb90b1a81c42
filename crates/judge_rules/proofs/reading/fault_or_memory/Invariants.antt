use Rattle.std.proofs.Common.{◌+◌, ◌≤◌, length}
use Rattle.judge_rules.specs.declared.fault.RuleError.{RuleError}
use Rattle.text_lines.specs.Lines.{text_lines}
use Rattle.judge_rules.specs.Rules.{rules_from, FitsAt}
use Rattle.judge_rules.proofs.reading.fault_or_memory.Given as goal

abbrev pub invariant-loop-first : goal.invariant-loop-first
invariant-loop-first l = record {
  some : 1 ≤ l.rules;
  most : l.rules ≤ 10000;
  line : l.next + length l.rest ≤ l.line + 1 + length l.fn.rest;
  fits : (e : RuleError) → FitsAt l.line e (rules_from l.rules l.next (text_lines l.rest)) → FitsAt l.line e (rules_from l.fn.rules (l.line + 1) (text_lines l.fn.rest));
}

abbrev pub decreases-loop-first : goal.decreases-loop-first
decreases-loop-first l = length l.rest
