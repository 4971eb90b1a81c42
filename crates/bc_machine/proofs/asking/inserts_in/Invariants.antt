use Rattle.std.proofs.Common.{◌≡◌, ◌≤◌, take, length}
use Rattle.bc_machine.specs.Agendas.{inserts_among}
use Rattle.bc_machine.specs.Rows.{all_placed}
use Rattle.bc_machine.proofs.asking.inserts_in.Given as goal

-- those among the rows so far
abbrev pub invariant-loop-row : goal.invariant-loop-row
invariant-loop-row l = record {
  few : l.count ≤ l.row-index;
  count : l.count ≡ length (inserts_among (all_placed l.beside.lists (take l.row-index l.rows)));
}
