use Rattle.std.proofs.Common.{◌-◌}
use Rattle.job_file.specs.Jobs.{job_in}
use Rattle.job_file.specs.Machines.{IsOf}
use Rattle.bench_core.proofs.OneChannelStages.{Stage}
use Rattle.bench_core.proofs.alone.record_all.Given as goal

abbrev pub invariant-loop-record : goal.invariant-loop-record
invariant-loop-record g l = record {
  of : IsOf (job_in l.job) l.job.actions l.machine;
  stage : Stage g.S.Sink.taken g.S.Sink.failures (job_in l.job) l.job.actions l.version l.limit l.fn.recorder.writing.sink l.machine.point.number l.recorder;
}

abbrev pub decreases-loop-record : goal.decreases-loop-record
decreases-loop-record g l = 1000000 - l.machine.point.number
