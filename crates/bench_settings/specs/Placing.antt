-- The actions that a channel's messages met (own choice).
use Rattle.std.specs.Prelude.{List, All}
use Rattle.bc_machine.specs.declared.placed.Placed.{Placed}
pub use Rattle.bc_machine.specs.Hosting.{placed_up_to}
use Rattle.bench_report.specs.Reports.{IsPlace, NeverFalls}

-- each action has the number of a message and is for the address of a terminal or for the controller, and the numbers
-- never fall
pub record IsOrdered (actions : List Placed) : Type 0 where
  pub places : All IsPlace actions
  pub order : NeverFalls 0 actions
