use Rattle.std.proofs.Common.{◌≡◌, ◌-◌, List}
use Rattle.frame_load.specs.Budget.{budget}
use Rattle.bc_machine.specs.declared.placed.Placed.{Placed}
use Rattle.bc_machine.specs.Running.{ended_in}
use Rattle.job_file.specs.ChannelJobs.{ChannelJob}
use Rattle.job_file.specs.Machines.{IsOf}
use Rattle.job_file.proofs.stepping.next_record.Given as goal

-- nothing was sent yet
abbrev pub invariant-steps : goal.invariant-steps
invariant-steps l = record {
  talks : l.machine.point.state.talks ≡ l.initial.machine.point.state.talks;
  ended : ended_in l.machine ≡ ended_in l.initial.machine;
  latest : l.machine.latest ≡ l.initial.machine.latest;
  number : l.machine.point.number ≡ l.initial.machine.point.number;
  of : (job : ChannelJob) (placed : List Placed) → IsOf job placed l.initial.machine → IsOf job placed l.machine;
}

abbrev pub decreases-steps : goal.decreases-steps
decreases-steps l = budget l.machine.code.operations - l.machine.taken
