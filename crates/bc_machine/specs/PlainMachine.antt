-- A controller's fields as plain data.
use Rattle.bc_machine.specs.Progress.{registers_in, point_in}
use Rattle.bc_machine.specs.Running.{MachineState}
use Rattle.bc_machine.specs.declared.parts.Parts.TheInside.{Inside}

abbrev pub state_in : Inside → MachineState
state_in m = record {
  code = m.program;
  plan = m.plan;
  placed = m.agenda.placed;
  capacity = m.agenda.capacity;
  begun = m.begun.value.0;
  taken = m.progress.taken;
  at = registers_in m.progress;
  point = point_in m.progress m.agenda.made m.bus;
  made = m.agenda.made;
  latest = m.progress.latest;
}
