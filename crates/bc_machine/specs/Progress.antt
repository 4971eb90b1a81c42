-- How far a controller has come, as plain data.
use Rattle.std.specs.Prelude.{List, length}
use Rattle.mil_message.specs.World.{Point}
use Rattle.mil_bus.specs.Exchange.{BusState}
use Rattle.mil_bus.specs.declared.outcomes.Outcome.{Outcome}
use Rattle.frame_code.specs.Table.{Registers}
use Rattle.bc_machine.specs.MadeMessages.{MadeMessage}
use Rattle.bc_machine.specs.declared.progress.Progress.{Progress}

abbrev pub registers_in : Progress → Registers
registers_in p = record {
  place = p.place;
  counters = p.counters;
  returns = p.returns;
  frames = p.frames;
  flag = p.flag;
  line = p.line;
}

abbrev pub point_in : Progress → List MadeMessage → BusState → Point BusState Outcome
point_in p made b = record { state = b; number = length made; gap = p.gap; last = p.last }
