use Rattle.std.proofs.Common.{◌≡◌, take, vec_capacity}
use Rattle.controller_host.proofs.Advanced.{advanced_to}
use Rattle.controller_host.proofs.Carried.{with_rows}
use Rattle.controller_host.proofs.sources.Sources.carry.Given as goal

-- the message has the words of the rows so far, which are behind it
abbrev pub invariant-loop-i : goal.invariant-loop-i
invariant-loop-i l = record {
  rows : l.self-inside.rows.items ≡ advanced_to l.i l.message l.initial.self-inside.rows.items;
  capacity : vec_capacity l.self-inside.rows ≡ vec_capacity l.initial.self-inside.rows;
  ready : l.self-inside.ready ≡ l.initial.self-inside.ready;
  sent : l.sent ≡ with_rows (take l.i l.initial.self-inside.rows.items) l.destination l.message;
}
