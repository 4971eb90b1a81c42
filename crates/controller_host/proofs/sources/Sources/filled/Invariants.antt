use Rattle.std.proofs.Common.{◌≡◌, take}
use Rattle.controller_host.proofs.Carried.{with_rows}
use Rattle.controller_host.proofs.sources.Sources.filled.Given as goal

-- the message has the words of the rows so far
abbrev pub invariant-loop-row : goal.invariant-loop-row
invariant-loop-row l = l.sent ≡ with_rows (take l.row-index l.row-items) l.destination l.message
