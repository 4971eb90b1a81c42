use Rattle.std.proofs.Common.{◌≡◌, ◌≤◌, take}
use Rattle.job_file.specs.TimedLines.{timed_inserts}
use Rattle.job_file.proofs.timed.TimedLines.inserts.Given as goal

-- those among the actions so far
abbrev pub invariant-loop-when : goal.invariant-loop-when
invariant-loop-when l = record {
  few : l.count ≤ l.when-index;
  count : l.count ≡ timed_inserts (take l.when-index l.when-items);
}
