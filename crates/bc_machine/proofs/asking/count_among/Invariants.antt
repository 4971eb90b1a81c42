use Rattle.std.proofs.Common.{◌≡◌, ◌≤◌, take, length}
use Rattle.bc_machine.specs.Rows.{rows_at}
use Rattle.bc_machine.proofs.asking.count_among.Given as goal

-- so many of the rows so far
abbrev pub invariant-loop-row : goal.invariant-loop-row
invariant-loop-row l = record {
  few : l.count ≤ l.row-index;
  count : l.count ≡ length (rows_at l.number (take l.row-index l.rows));
}
