use Rattle.std.proofs.Common.{◌≡◌, ◌+◌, ◌≤◌, length}
use Rattle.bench_judge.specs.Verdicts as spec
use Rattle.bench_judge.proofs.verdicts.not_held.Given as goal

-- those so far were counted
abbrev pub invariant-verdicts : goal.invariant-verdicts
invariant-verdicts l = record {
  few : l.found + length l.rest ≤ length l.verdicts;
  counted : l.found + spec.not_held l.rest ≡ spec.not_held l.verdicts;
}

abbrev pub decreases-verdicts : goal.decreases-verdicts
decreases-verdicts l = length l.rest
