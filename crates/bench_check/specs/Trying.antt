-- A job that is tried step by step.
use Rattle.std.specs.Prelude.{◌≡◌, ℕ, ◌+◌, ◌-◌, ◌<◌, ◌++◌}
use Rattle.frame_load.specs.Budget.{budget}
use Rattle.bc_machine.specs.Hosting.{inserted_in}
use Rattle.bc_machine.specs.Running.{MachineState, most_inserted}
use Rattle.job_file.specs.Jobs.{JobState, job_in}
use Rattle.job_file.specs.Machines.{IsOf}
use Rattle.bench_check.specs.declared.trying.Trial.{Trial}
use Rattle.bench_check.specs.Overruns.{overruns, overruns_in}
use Rattle.bench_check.specs.Unmet.{made, unmet_up_to}

-- how many steps are left of a controller's: of the budget of its code, and of the messages that may be inserted
abbrev pub steps_left : MachineState → ℕ
steps_left m = (budget m.code.operations - m.taken) + (most_inserted m.code - inserted_in m.made)

-- the controller is the job's; of the messages so far the faults that met nothing are kept, and of the steps so far the
-- frames that took too long
pub record IsTried (job : JobState) (t : Trial) : Type 0 where
  pub of : IsOf (job_in job) job.actions t.machine
  pub unmet : t.unmet.items ≡ unmet_up_to job t.machine.point.number
  pub overruns : t.overruns.items ++ overruns_in (steps_left t.machine) t.machine ≡ overruns job

-- one step more
pub record StepsOn (job : JobState) (old new : Trial) : Type 0 where
  pub tried : IsTried job new
  pub smaller : steps_left new.machine < steps_left old.machine

-- its controller has ended
pub record HasEnded (job : JobState) (t : Trial) : Type 0 where
  pub sent : t.machine.point.number ≡ made job
  pub unmet : t.unmet.items ≡ unmet_up_to job (made job)
  pub overruns : t.overruns.items ≡ overruns job
