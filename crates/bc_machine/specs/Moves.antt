-- What the parts of a step make of a controller.
use Rattle.std.specs.Prelude.{ℕ, ◌+◌, Bool, true, false, ◌∷◌}
use Rattle.mil_word.specs.declared.Line.{Line}
use Rattle.mil_message.specs.World.{other_line}
use Rattle.mil_bus.specs.declared.outcomes.Outcome.{Outcome}
use Rattle.frame_code.specs.Table.{Registers, Running, Turn, goes_on, halted, stuck, at_place}
use Rattle.bc_machine.specs.Controller.{BusRun}
use Rattle.bc_machine.specs.Running.{MachineState, clock_in}

-- one more step was taken, and these are the registers after it
abbrev pub with_registers : MachineState → Registers → MachineState
with_registers m r = record m { at = r }

abbrev pub gone : MachineState → ℕ → MachineState
gone m place = record m { taken = m.taken + 1; at = at_place m.at place }

abbrev pub gap_set : MachineState → ℕ → MachineState
gap_set m ticks = record m { point = record m.point { gap = ticks } }

abbrev pub with_counter : MachineState → ℕ → MachineState
with_counter m count = with_registers m (record m.at { counters = count ∷ m.at.counters })

-- a frame begins now
abbrev pub framed : MachineState → MachineState
framed m = with_registers m (record m.at { frames = clock_in m ∷ m.at.frames })

abbrev pub flagged : MachineState → Bool → MachineState
flagged m flag = with_registers m (record m.at { flag = flag })

-- the line of a message, where this was the last one: its own, or the one other than the last
abbrev pub line_of : Bool → Line → Line → Line
line_of false last own = own
line_of true last own = other_line last

-- a controller behind a row that sends nothing
abbrev pub moved_quietly : Turn (Running BusRun Outcome) → MachineState → MachineState
moved_quietly (goes_on x) m = record m {
  taken = m.taken + 1;
  at = x.at;
  point = record {
    state = x.point.state.bus;
    number = m.point.number;
    gap = x.point.gap;
    last = x.point.last;
  };
}
moved_quietly halted m = m
moved_quietly stuck m = m
