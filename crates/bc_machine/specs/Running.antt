-- A controller as plain data, and one step of it: one row of the operation table.
use Rattle.std.specs.Prelude.{◌≡◌, ℕ, zero, suc, ◌+◌, ◌-◌, ◌==◌, Bool, true, false, if◌then◌else◌, List, [], ◌∷◌, ◌++◌}
use Rattle.std.specs.Prelude.{length, count_by, Option, Some, None, slice_get}
use Rattle.mil_word.specs.Timing.{least_gap}
use Rattle.mil_message.specs.World.{World, Point}
use Rattle.mil_line.specs.Plans.{Planned}
use Rattle.mil_bus.specs.declared.talks.Talk.{Talk}
use Rattle.mil_bus.specs.declared.outcomes.Outcome.{Outcome}
use Rattle.mil_bus.specs.Exchange.{BusState, clock_of, now_of}
use Rattle.mil_monitor.specs.Observed.{observed}
use Rattle.frame_code.specs.declared.Op.{Op}
use Rattle.frame_code.specs.declared.Op.TheVariants as op
use Rattle.frame_code.specs.Table.{Code, Registers, Running, Turn, goes_on, halted, stuck, step, start}
use Rattle.frame_code.specs.Loadable.{IsLoadable}
use Rattle.frame_load.specs.Budget.{worst_messages}
use Rattle.controller_host.specs.Values.{InsertionValue}
use Rattle.bc_machine.specs.declared.placed.Placed.{Placed}
use Rattle.bc_machine.specs.declared.Stepped.{Stepped}
use Rattle.bc_machine.specs.declared.Stepped.TheVariants.{Ran, Sent, Inserted, Halted}
use Rattle.bc_machine.specs.MadeMessages.{MadeMessage, own, inserted}
use Rattle.bc_machine.specs.Hosting.{next_insertion}
use Rattle.bc_machine.specs.Controller.{Setting, BusRun, setting_of, world_of, insertion_bus, insertion_talk}
use Rattle.bc_machine.specs.Controller.{outcome_in}

pub record MachineState : Type 0 where
  -- what it runs
  pub code : Code
  pub plan : List Planned
  pub placed : List Placed
  -- for how many actions there is room, those that are placed among them
  pub capacity : ℕ
  -- the bus that it began with
  pub begun : BusState
  -- how many steps of the code it took; a Halt is none, nor is an inserted message
  pub taken : ℕ
  pub at : Registers
  -- the bus, how many messages were made, the gap that is set, and the outcome of the last message of the script
  pub point : Point BusState Outcome
  -- the messages made, in their order
  pub made : List MadeMessage
  -- the outcome of the latest message, of the script or inserted
  pub latest : Option Outcome

-- a bus on which no message was made
abbrev pub unplayed : BusState → BusRun
unplayed b = record { bus = b; made = [] }

-- where frames begin: before any message the gap is 40 ticks
abbrev pub beginning : BusState → Point BusRun Outcome
beginning b = record { state = unplayed b; number = 0; gap = least_gap; last = None }

abbrev pub started : Code → BusState → List Planned → List Placed → MachineState
started code b plan placed = record {
  code = code;
  plan = plan;
  placed = placed;
  capacity = length placed;
  begun = b;
  taken = 0;
  at = start code;
  point = record { state = b; number = 0; gap = least_gap; last = None };
  made = [];
  latest = None;
}

-- so many messages are inserted at most that all are at most 1,000,000
abbrev pub most_inserted : Code → ℕ
most_inserted code = 1000000 - worst_messages code.operations

abbrev pub setting : MachineState → Setting
setting m = setting_of m.plan m.placed (most_inserted m.code)

abbrev pub world_in : MachineState → World BusRun Outcome
world_in m = world_of m.plan m.placed (most_inserted m.code)

abbrev pub is_own : MadeMessage → Bool
is_own (own message) = true
is_own inserted = false

abbrev pub bus_run : MachineState → BusRun
bus_run m = record { bus = m.point.state; made = m.made }

-- the point as frames see it: they count the messages of the script
abbrev pub frames_point : MachineState → Point BusRun Outcome
frames_point m = record {
  state = bus_run m;
  number = count_by is_own m.made;
  gap = m.point.gap;
  last = m.point.last;
}

-- the row of the operation table that is next
abbrev pub turn_of : MachineState → Turn (Running BusRun Outcome)
turn_of m = step (world_in m) m.code m.at (frames_point m)

-- the outcome of the latest message behind a step that made as many as there are now
abbrev pub latest_behind : MachineState → Point BusRun Outcome → Option Outcome
latest_behind m p = if length p.state.made == length m.made then m.latest else p.last

abbrev pub with_point : MachineState → Point BusRun Outcome → MachineState
with_point m p = record m {
  point = record { state = p.state.bus; number = length p.state.made; gap = p.gap; last = p.last };
  made = p.state.made;
  latest = latest_behind m p;
}

abbrev pub moved_by : Turn (Running BusRun Outcome) → MachineState → MachineState
moved_by (goes_on x) m = record (with_point m x.point) { taken = m.taken + 1; at = x.at }
moved_by halted m = m
moved_by stuck m = m

-- an operation that makes a message, or ends the program: in front of it inserted messages are sent
abbrev pub stops_at : Option Op → Bool
stops_at (Some op.Halt) = true
stops_at (Some (op.Send m)) = true
stops_at (Some (op.Alt m)) = true
stops_at _ = false

-- the inserted message that the next step sends
abbrev pub waiting : MachineState → Option InsertionValue
waiting m =
    if stops_at (slice_get m.code.operations m.at.place) then next_insertion m.placed (most_inserted m.code) m.made
    else None

-- an inserted message was sent; place, flag, counters, last line and last outcome stay
abbrev pub with_inserted : MachineState → InsertionValue → MachineState
with_inserted m x = record m {
  point = record m.point {
    state = insertion_bus (setting m) m.point.gap x (bus_run m);
    number = m.point.number + 1;
  };
  made = m.made ++ inserted ∷ [];
  latest = Some (outcome_in (insertion_talk (setting m) m.point.gap x (bus_run m)));
}

abbrev pub stepped_with : Option InsertionValue → MachineState → MachineState
stepped_with None m = moved_by (turn_of m) m
stepped_with (Some x) m = with_inserted m x

-- one step: an inserted message, where one waits, else one row of the operation table; after a Halt it stands still
-- until one waits
unfoldable pub stepped : MachineState → MachineState
stepped m = stepped_with (waiting m) m

-- it stands at a Halt, and no inserted message waits
pub record HasEnded (m : MachineState) : Type 0 where
  pub halts : turn_of m ≡ halted
  pub none : waiting m ≡ None

-- so many steps
abbrev pub after_steps : ℕ → MachineState → MachineState
after_steps zero m = m
after_steps (suc n) m = after_steps n (stepped m)

-- a fact of each controller of a code that keeps the loader's rules, as it starts
abbrev pub EachController : (MachineState → Type 0) → Type 0
EachController P =
    (code : Code) (b : BusState) (plan : List Planned) (placed : List Placed) → IsLoadable code
    → P (started code b plan placed)

-- the record of the latest talk
abbrev pub latest_record : List Talk → Stepped
latest_record [] = Ran
latest_record (talk ∷ talks) = Sent (observed talk)

-- what a row answers, where these are the talks after it: one that sends, the record of its talk
abbrev pub answer_of : Option Op → List Talk → Stepped
answer_of (Some op.Halt) talks = Halted
answer_of (Some (op.Send m)) talks = latest_record talks
answer_of (Some (op.Alt m)) talks = latest_record talks
answer_of _ talks = Ran

abbrev pub answered_with : Option InsertionValue → MachineState → Stepped
answered_with None m = answer_of (slice_get m.code.operations m.at.place) (stepped m).point.state.talks
answered_with (Some x) m = Inserted (observed (insertion_talk (setting m) m.point.gap x (bus_run m)))

unfoldable pub answered : MachineState → Stepped
answered m = answered_with (waiting m) m

-- when the last word on either line ended
abbrev pub ended_in : MachineState → ℕ
ended_in m = clock_of m.point.state.start m.point.state.talks

-- now: when the last word on either line ended, or the least start of its bus where that is later
abbrev pub clock_in : MachineState → ℕ
clock_in m = now_of m.point.state
