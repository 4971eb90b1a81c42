use Rattle.std.proofs.Common.{◌≡◌, take, vec_capacity}
use Rattle.controller_host.proofs.sources.Sources.restore.Given as goal

-- the rows so far, and as much room
abbrev pub invariant-loop-row : goal.invariant-loop-row
invariant-loop-row l = record {
  rows : l.self-inside.rows.items ≡ take l.row-index l.saved;
  capacity : vec_capacity l.self-inside.rows ≡ vec_capacity l.initial.self-inside.rows;
  ready : l.self-inside.ready ≡ l.initial.self-inside.ready;
}
