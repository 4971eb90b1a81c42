use Rattle.std.proofs.Common.{◌≡◌, ◌<◌, ℕ, get_or}
use Rattle.std.specs.Prelude.{false, nat_le}
use Rattle.controller_host.specs.Sources.{row_order}
use Rattle.controller_host.proofs.Rising.{no_row}
use Rattle.controller_host.proofs.sources.before.Given as goal

-- the rows so far stand before the place
abbrev pub invariant-loop-i : goal.invariant-loop-i
invariant-loop-i l = (k : ℕ) → k < l.i → nat_le l.order (row_order (get_or l.rows k no_row)) ≡ false
