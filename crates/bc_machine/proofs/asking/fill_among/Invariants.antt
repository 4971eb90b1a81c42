use Rattle.std.proofs.Common.{◌≡◌, drop}
use Rattle.bc_machine.specs.Asking.{controls_at, filled_by}
use Rattle.bc_machine.specs.Rows.{all_placed}
use Rattle.bc_machine.proofs.asking.fill_among.Given as goal

-- what is left makes of the message what all make of it at first
abbrev pub invariant-loop-row : goal.invariant-loop-row
invariant-loop-row l =
    filled_by (controls_at l.number (all_placed l.beside.lists (drop l.row-index l.rows))) l.sent ≡ filled_by (controls_at l.number (all_placed l.beside.lists l.rows)) l.initial.sent
