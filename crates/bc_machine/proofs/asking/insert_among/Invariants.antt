use Rattle.std.proofs.Common.{◌≡◌, ◌≤◌, [], drop, take, length}
use Rattle.bc_machine.specs.Agendas.{inserts_among}
use Rattle.bc_machine.specs.Hosting.{placed_at}
use Rattle.bc_machine.specs.Rows.{all_placed}
use Rattle.bc_machine.proofs.asking.insert_among.Given as goal

-- so many of the number stand among the rows so far, and no insert among these behind those that were passed
abbrev pub invariant-loop-row : goal.invariant-loop-row
invariant-loop-row l = record {
  few : l.place ≤ l.row-index;
  place : l.place ≡ length (placed_at l.number (all_placed l.beside.lists (take l.row-index l.rows)));
  none : inserts_among (drop l.passed (placed_at l.number (all_placed l.beside.lists (take l.row-index l.rows)))) ≡ [];
}
