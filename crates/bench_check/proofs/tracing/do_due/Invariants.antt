use Rattle.std.proofs.Common.{◌≡◌}
use Rattle.job_file.specs.Resolving.{turns_left, IsKept, MayPlan}
use Rattle.bench_check.specs.Tracing.{IsCounted}
use Rattle.bench_check.proofs.tracing.do_due.Given as goal

abbrev pub invariant-times : goal.invariant-times
invariant-times l = record {
  kept : IsKept l.run;
  planned : MayPlan l.run;
  counted : IsCounted l.trace;
  left : turns_left l.run.machine ≡ turns_left l.initial.run.machine;
}
