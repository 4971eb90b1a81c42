use Rattle.std.proofs.Common.{◌≡◌, ◌<◌, ℕ, List}
use Rattle.std.specs.Prelude.{IfSome}
use Rattle.job_file.specs.Resolving.{standing, IsKept, IsWithin}
use Rattle.job_file.specs.Timed.{coming_met, done_times}
use Rattle.job_file.proofs.job_run.JobRun.arrange_next.Given as goal

abbrev pub invariant-times : goal.invariant-times
invariant-times l = record {
  next : l.next ≡ coming_met l.self.machine;
  few : IfSome l.next (λ _. l.self.machine.point.number < 1000000);
  done : standing l.self ≡ done_times l.time (standing l.initial.self);
  faults : l.self.faults ≡ l.initial.self.faults;
  kept : IsKept l.self;
  within : (addresses : List ℕ) (most : ℕ) → IsWithin addresses most (standing l.initial.self) → IsWithin addresses most (standing l.self);
}
