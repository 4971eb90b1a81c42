use Rattle.std.proofs.Common.{◌≡◌, drop}
use Rattle.bc_machine.specs.Agendas.{inserts_among}
use Rattle.bc_machine.specs.Rows.{all_placed}
use Rattle.bc_machine.proofs.asking.insert_from.Given as goal

-- no insert stands before the place
abbrev pub invariant-loop-place : goal.invariant-loop-place
invariant-loop-place l = inserts_among (drop l.place (all_placed l.beside.lists l.rows)) ≡ inserts_among (drop l.passed (all_placed l.beside.lists l.rows))
