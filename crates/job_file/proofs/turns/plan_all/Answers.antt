use Rattle.std.proofs.Common.{◌<◌, length, take, ap, arith}
use Rattle.std.proofs.lemmas.List.{length-take}
use Rattle.bc_machine.specs.Planning.{next_number}
use Rattle.bc_machine.specs.Running.{MachineState}
use Rattle.mil_line.specs.Plans.{faults_of}
use Rattle.job_file.proofs.FaultLemmas.{planned_here}
use Rattle.job_file.proofs.turns.plan_all.Goals as goal

-- those in front of it are planned, and with it they are four at most
pub plan_one-requires-clause-few : goal.plan_one-requires-clause-few
plan_one-requires-clause-few c =
    let from = c.args.machine.now in
    let faults = c.args.faults.now in
    let before = take c.loop-fault.fault-index faults in
    let same = ap (λ (m : MachineState). length (faults_of (next_number m) m.plan)) c.loop-fault.invariant.planned in
    let within : c.loop-fault.fault-index < length faults = omega arith in
    let few = c.requires.few (omega arith) in
    omega (arith, same, planned_here from before, few, length-take c.loop-fault.fault-index faults)
