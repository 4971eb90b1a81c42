use Rattle.std.proofs.Common.{◌≡◌, take}
use Rattle.bc_machine.specs.UnderWay.{IsUnderWay}
use Rattle.job_file.specs.Timed.{with_faults}
use Rattle.job_file.proofs.turns.plan_all.Given as goal

abbrev pub invariant-loop-fault : goal.invariant-loop-fault
invariant-loop-fault l = record {
  planned : l.machine ≡ with_faults l.initial.machine (take l.fault-index l.faults);
  under_way : IsUnderWay l.machine;
}
