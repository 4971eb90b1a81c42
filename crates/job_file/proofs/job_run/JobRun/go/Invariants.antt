use Rattle.std.proofs.Common.{◌≡◌, ◌≤◌, ℕ, ◌+◌}
use Rattle.std.specs.Prelude.{List}
use Rattle.job_file.specs.Resolving.{standing, IsKept, IsWithin, MayPlan, turns_left}
use Rattle.job_file.specs.Timed.{turned_times}
use Rattle.job_file.proofs.job_run.JobRun.go.Given as goal

abbrev pub invariant-turns : goal.invariant-turns
invariant-turns l = record {
  turns : ℕ;
  turned : standing l.self ≡ turned_times turns l.initial.self.faults.faults (standing l.initial.self);
  few : turns + turns_left l.self.machine ≤ turns_left l.initial.self.machine;
  faults : l.self.faults.faults ≡ l.initial.self.faults.faults;
  kept : IsKept l.self;
  planned : MayPlan l.self;
  within : (addresses : List ℕ) (most : ℕ) → IsWithin addresses most (standing l.initial.self) → IsWithin addresses most (standing l.self);
}

abbrev pub decreases-turns : goal.decreases-turns
decreases-turns l = turns_left l.self.machine
