-- What is planned, in the order in which it was added.
use Rattle.std.specs.Prelude.{ℕ, ◌==◌, List, Option, Some, None, if◌then◌else◌}
use Rattle.std.specs.List.{filter_map}
use Rattle.mil_line.specs.declared.faults.Fault.{Fault}

-- a fault and the number of its message
abbrev pub Planned : Type 0
Planned = ℕ × Fault

-- the fault, where it is of this message
abbrev pub fault_of : ℕ → Planned → Option Fault
fault_of number planned = if planned.0 == number then Some planned.1 else None

-- the faults of a message, in the order in which they were added
abbrev pub faults_of : ℕ → List Planned → List Fault
faults_of number plan = filter_map (fault_of number) plan
