use Rattle.std.proofs.Common.{◌≡◌, ◌≤◌, length}
use Rattle.bc_machine.specs.Agendas.{in_front, inserts_among}
use Rattle.bc_machine.specs.Hosting.{inserted_in}
use Rattle.bc_machine.proofs.agenda.Agenda.head_from.Given as goal

-- no insert that was not sent stands before the place
abbrev pub invariant-loop-number : goal.invariant-loop-number
invariant-loop-number l = record {
  first : 1 ≤ l.number;
  sent : length (inserts_among (in_front (record { number = l.number; passed = l.passed }) l.self.placed)) ≡ inserted_in l.self.made;
}
