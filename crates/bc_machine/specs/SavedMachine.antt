-- What is kept of a controller, as plain data.
use Rattle.std.specs.Prelude.{◌+◌, List, ◌++◌, length}
use Rattle.bc_machine.specs.Progress.{registers_in, point_in}
use Rattle.bc_machine.specs.declared.placed.Placed.{Placed}
use Rattle.bc_machine.specs.Running.{MachineState}
use Rattle.bc_machine.specs.Agendas.{IsSavedAgenda}
use Rattle.bc_machine.specs.declared.saved.SavedParts.TheInside.{Inside}

abbrev pub actions_kept : Inside → List Placed
actions_kept s = s.placed.value.actions ++ s.posted.value.actions

abbrev pub state_kept : Inside → MachineState
state_kept s = record {
  code = s.program.value;
  plan = s.plan.value;
  placed = actions_kept s;
  capacity = length s.placed.value.actions + (length s.posted.value.actions + s.agenda.room);
  begun = s.begun.value.0;
  taken = s.progress.taken;
  at = registers_in s.progress;
  point = point_in s.progress s.agenda.made s.bus;
  made = s.agenda.made;
  latest = s.progress.latest;
}

-- what is kept of the queue and of the sources fits the placed actions
abbrev pub KeepsAgenda : Inside → Type 0
KeepsAgenda s = IsSavedAgenda (actions_kept s) s.agenda
