use Rattle.std.proofs.Common.{◌+◌, ◌≤◌, length}
use Rattle.signal_judge.specs.Taking.{IsReading, many}
use Rattle.signal_judge.proofs.reading.read_all_rules.Given as goal

-- the rules so far are those of the lines so far
abbrev pub invariant-lines : goal.invariant-lines
invariant-lines l = record {
  few : many l.rules ≤ 10000;
  line : l.line + length l.rest ≤ length l.text + 1;
  reading : IsReading l.signals l.text l.rules l.line l.rest;
}

abbrev pub decreases-lines : goal.decreases-lines
decreases-lines l = length l.rest
