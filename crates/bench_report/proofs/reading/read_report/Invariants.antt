use Rattle.std.proofs.Common.{◌+◌, ◌≤◌, length}
use Rattle.bench_report.proofs.ReadLines.{IsReadTo}
use Rattle.bench_report.proofs.reading.read_report.Given as goal

-- so far the text was read; each line takes at least a byte
abbrev pub invariant-loop-first : goal.invariant-loop-first
invariant-loop-first l = IsReadTo l.text l.rest l.draft l.line × (l.line + length l.rest ≤ length l.text + 1)

abbrev pub decreases-loop-first : goal.decreases-loop-first
decreases-loop-first l = length l.rest
