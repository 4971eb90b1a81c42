use Rattle.std.proofs.Common.{◌≡◌, drop}
use Rattle.mil_bus.specs.Exchange.{now_of}
use Rattle.bc_machine.specs.Controller.{all_acted, placed_at}
use Rattle.bc_machine.specs.Rows.{all_placed}
use Rattle.bc_machine.proofs.action_rows.act_at.Given as goal

-- what is left makes of the bus what all make of it at first; no action moves the clock
abbrev pub invariant-loop-row : goal.invariant-loop-row
invariant-loop-row l = record {
  left : all_acted l.bus (placed_at l.number (all_placed l.beside.lists (drop l.row-index l.rows))) ≡ all_acted l.initial.bus (placed_at l.number (all_placed l.beside.lists l.rows));
  clock : now_of l.bus ≡ now_of l.initial.bus;
}
