use Rattle.std.proofs.Common.{ap}
use Rattle.bc_machine.specs.Running.{MachineState}
use Rattle.job_file.specs.Jobs.{job_in}
use Rattle.bench_reproduce.proofs.judging.judge.Goals as goal

pub compare_all-requires : goal.compare_all-requires
compare_all-requires c = ap (λ (m : MachineState). m.point.number) c.in_ok-machine.ensures.value

pub returns-clause-messages : goal.returns-clause-messages
returns-clause-messages c =
    c.in_ok-verdict.ensures.messages (job_in c.args.job) c.args.job.actions c.program-sound.ensures.sound c.in_ok-machine.ensures.of_job

pub returns-clause-same : goal.returns-clause-same
returns-clause-same c =
    c.in_ok-verdict.ensures.same (job_in c.args.job) c.args.job.actions c.program-sound.ensures.sound c.in_ok-machine.ensures.of_job
