-- Faults that are planned while a controller is under way.
use Rattle.std.specs.Prelude.{◌≡◌, ℕ, ◌+◌, ◌≤◌, ◌++◌, ◌∷◌, [], List}
use Rattle.mil_line.specs.declared.faults.Fault.{Fault}
use Rattle.mil_line.specs.Plans.{Planned, faults_of}
use Rattle.frame_code.specs.Table.{halted}
use Rattle.bc_machine.specs.Running.{MachineState, turn_of}
use Rattle.bc_machine.specs.UnderWay.{IsUnderWay}

-- the controller under another plan
abbrev pub with_plan : MachineState → List Planned → MachineState
with_plan m plan = record m { plan = plan }

-- the number of its next message
abbrev pub next_number : MachineState → ℕ
next_number m = m.point.number + 1

-- one fault more for its next message, behind those that are planned
abbrev pub with_fault : MachineState → Fault → MachineState
with_fault m fault = with_plan m (m.plan ++ (next_number m, fault) ∷ [])

-- the same faults are planned for the messages that were sent
abbrev pub ArePlannedAlikeSoFar : MachineState → List Planned → Type 0
ArePlannedAlikeSoFar m plan =
    (n : ℕ) → 1 ≤ n → n ≤ m.point.number → faults_of n plan ≡ faults_of n m.plan

-- faults of messages to come leave no trace: with others for these, a controller under way stands where it stood
abbrev pub FaultsToComeAreFree : Type 0
FaultsToComeAreFree = (m : MachineState) (plan : List Planned) → IsUnderWay m → ArePlannedAlikeSoFar m plan
    → IsUnderWay (with_plan m plan)

-- nor do they keep its program from its end
abbrev pub HaltsUnderEachPlan : Type 0
HaltsUnderEachPlan = (m : MachineState) (plan : List Planned) → turn_of m ≡ halted → turn_of (with_plan m plan) ≡ halted
