use Rattle.job_file.specs.Resolving.{turns_left, IsKept, MayPlan}
use Rattle.bench_check.specs.Tracing.{IsCounted}
use Rattle.bench_check.proofs.tracing.turn_to_end.Given as goal

abbrev pub invariant-turns : goal.invariant-turns
invariant-turns l = record {
  kept : IsKept l.run;
  planned : MayPlan l.run;
  counted : IsCounted l.trace;
}

abbrev pub decreases-turns : goal.decreases-turns
decreases-turns l = turns_left l.run.machine
