use Rattle.std.proofs.Common.{List, ◌-◌}
use Rattle.bc_machine.specs.declared.placed.Placed.{Placed}
use Rattle.job_file.specs.Machines.{IsOf}
use Rattle.job_file.specs.Spelled.{ChannelJob}
use Rattle.bench_reproduce.proofs.judging.run_on.Given as goal

abbrev pub invariant-records : goal.invariant-records
invariant-records l = (job : ChannelJob) (placed : List Placed) → IsOf job placed l.initial.machine → IsOf job placed l.machine

abbrev pub decreases-records : goal.decreases-records
decreases-records l = 1000000 - l.machine.point.number
