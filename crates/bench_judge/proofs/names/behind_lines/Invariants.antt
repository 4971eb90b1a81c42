use Rattle.std.proofs.Common.{◌≡◌, drop}
use Rattle.text_lines.specs.Lines.{text_lines}
use Rattle.bench_judge.proofs.names.behind_lines.Given as goal

-- so many lines are behind
abbrev pub invariant-lines : goal.invariant-lines
invariant-lines l = text_lines l.rest ≡ drop l.made (text_lines l.text)
