-- Controllers that were started alike: whatever one comes to, the other may be taken there.
use Rattle.std.specs.Prelude.{◌≡◌}
use Rattle.bc_machine.specs.Running.{MachineState}

-- the same program, on a bus that was the same at first, under the same plan and the same placed actions
pub record AreAlike (m other : MachineState) : Type 0 where
  pub code : m.code ≡ other.code
  pub plan : m.plan ≡ other.plan
  pub placed : m.placed ≡ other.placed
  pub begun : m.begun ≡ other.begun
