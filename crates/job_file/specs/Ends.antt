-- What the run of a job with lines by time and by command came to.
use Rattle.std.specs.Prelude.{◌≡◌, ℕ, List}
use Rattle.bc_machine.specs.declared.placed.Placed.{Placed}
use Rattle.bc_machine.specs.Running.{HasEnded}
use Rattle.bc_machine.specs.UnderWay.{IsUnderWay}
use Rattle.mil_line.specs.Plans.{Planned}
use Rattle.job_file.specs.ChannelJobs.{ChannelJob}
use Rattle.job_file.specs.Resolving.{IsWithin}
use Rattle.job_file.specs.Timed.{Standing, at_beginning, run_out}
use Rattle.job_file.specs.TimedLines.{Timed}

-- it ended with these actions placed, in this order, and with these faults planned
pub record ComesTo (base : ChannelJob) (timed : Timed) (actions : List Placed) (plan : List Planned) : Type 0 where
  pub last : Standing
  pub end : run_out base timed ≡ last.machine
  pub acts : actions ≡ last.machine.placed
  pub plans : plan ≡ last.machine.plan
  pub under_way : IsUnderWay last.machine
  pub ended : HasEnded last.machine
  pub within : (addresses : List ℕ) (most : ℕ) → IsWithin addresses most (at_beginning base timed)
      → IsWithin addresses most last
