-- Actions that are placed while a controller is under way.
use Rattle.std.specs.Prelude.{◌≡◌, ℕ, ◌+◌, ◌≤◌, max, List, length}
use Rattle.frame_code.specs.Table.{halted}
use Rattle.bc_machine.specs.declared.placed.Placed.{Placed}
use Rattle.bc_machine.specs.declared.placed.HostAction.{HostAction}
use Rattle.bc_machine.specs.Controller.{placed_at}
use Rattle.bc_machine.specs.Running.{MachineState, turn_of}
use Rattle.bc_machine.specs.UnderWay.{IsUnderWay}

-- the controller with other placed actions
abbrev pub with_placed : MachineState → List Placed → MachineState
with_placed m placed = record m { placed = placed }

-- the controller with room for so many actions more
abbrev pub with_room : MachineState → ℕ → MachineState
with_room m count = record m { capacity = max m.capacity (length m.placed + count) }

-- an action at its next message
abbrev pub at_next : MachineState → HostAction → Placed
at_next m action = record { number = m.point.number + 1; action = action }

-- the same actions are placed at the messages that were sent
abbrev pub AreAlikeSoFar : MachineState → List Placed → Type 0
AreAlikeSoFar m placed = (n : ℕ) → 1 ≤ n → n ≤ m.point.number → placed_at n placed ≡ placed_at n m.placed

-- actions at messages to come leave no trace: with others at these, a controller under way stands where it stood
abbrev pub ActionsToComeAreFree : Type 0
ActionsToComeAreFree = (m : MachineState) (placed : List Placed) → IsUnderWay m → AreAlikeSoFar m placed
    → IsUnderWay (with_placed m placed)

-- nor do they keep its program from its end
abbrev pub HaltsAlike : Type 0
HaltsAlike = (m : MachineState) (placed : List Placed) → turn_of m ≡ halted → turn_of (with_placed m placed) ≡ halted
