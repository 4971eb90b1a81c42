-- What the lines of a job by time and by command mean (own choice): the job of numbers alone that its controller comes
-- to, where in front of each message what is due is placed at its number, and the faults due at it are planned for it.
use Rattle.std.specs.Prelude.{ℕ, zero, suc, ◌+◌, ◌-◌, Bool, true, false, not, ◌&&◌, if◌then◌else◌, List, [], ◌∷◌}
use Rattle.std.specs.Prelude.{◌++◌, length, map, reverse, slice_get, Option, Some, None}
use Rattle.std.specs.List.{position, remove}
use Rattle.std.specs.Option.{option_map}
use Rattle.mil_message.specs.Forms.{first_command, second_command}
use Rattle.mil_line.specs.declared.faults.Fault.{Fault}
use Rattle.mil_line.specs.Plans.{Planned}
use Rattle.mil_bus.specs.declared.talks.Talk.{Talk}
use Rattle.frame_asm.specs.Shapes.{code_of_tree}
use Rattle.frame_load.specs.Budget.{budget}
use Rattle.bc_machine.specs.NextMessage.{coming_talk}
use Rattle.bc_machine.specs.Planning.{next_number, with_plan}
use Rattle.bc_machine.specs.Posting.{with_placed, with_room, at_next}
use Rattle.bc_machine.specs.declared.placed.Placed.{Placed}
use Rattle.bc_machine.specs.Running.{MachineState, started, stepped}
use Rattle.job_moments.specs.declared.met.Met.{Met}
use Rattle.job_moments.specs.Moments.{is_due}
use Rattle.job_moments.specs.Planning.{PlannedFault, faults_at}
use Rattle.job_file.specs.declared.timed.TimedAction.{TimedAction}
use Rattle.job_file.specs.ChannelJobs.{ChannelJob}
use Rattle.job_file.specs.Meaning.{bus_of}
use Rattle.job_file.specs.TimedLines.{Timed}

-- ---- what is looked at

-- a message of a bus that begins at a tick, as moments see it: its time counts from there on
abbrev pub met_of : ℕ → Talk → Met
met_of begin talk = record {
  start = talk.start - begin;
  first = first_command talk.message;
  second = second_command talk.message;
}

-- the messages that a controller has made
abbrev pub made_of : MachineState → List Met
made_of m = map (met_of m.begun.start) (reverse m.point.state.talks)

-- the message that it sends next, if it sends one
abbrev pub coming_met : MachineState → Option Met
coming_met m = option_map (met_of m.begun.start) (coming_talk m)

-- ---- in front of a message

-- a controller under way, and the actions that are still to come
pub record Standing : Type 0 where
  pub left : List TimedAction
  pub machine : MachineState

-- the place of the first of these that is due in front of the next message; where none comes next, none is due
abbrev pub first_due_in : List TimedAction → List Met → Option Met → Option ℕ
first_due_in left made None = None
first_due_in left made (Some next) = position (λ (w : TimedAction). is_due made next w.moment) left

abbrev pub due_now : Standing → Option ℕ
due_now s = first_due_in s.left (made_of s.machine) (coming_met s.machine)

-- an action is placed at the next number, behind those that are placed
abbrev pub with_action_now : Option TimedAction → MachineState → MachineState
with_action_now None m = m
with_action_now (Some w) m = with_placed m (m.placed ++ at_next m w.action ∷ [])

-- it is done, and comes no more
abbrev pub done_at : Option ℕ → Standing → Standing
done_at None s = s
done_at (Some place) s = record {
  left = remove s.left place;
  machine = with_action_now (slice_get s.left place) s.machine;
}

-- so many times the first that is due is done, where one is; each time the next message is looked at again
abbrev pub done_times : ℕ → Standing → Standing
done_times zero s = s
done_times (suc n) s = done_at (due_now (done_times n s)) (done_times n s)

-- all that is due is done: no more than there are
unfoldable pub arranged : Standing → Standing
arranged s = done_times (length s.left) s

-- the faults that are due at the next message
abbrev pub faults_in : List PlannedFault → List Met → Option Met → List Fault
faults_in faults made None = []
faults_in faults made (Some next) = faults_at made next faults

-- these faults are planned for the next message, behind those that are planned
abbrev pub with_faults : MachineState → List Fault → MachineState
with_faults m faults = with_plan m (m.plan ++ map (λ (f : Fault). (next_number m, f)) faults)

unfoldable pub faulted : List PlannedFault → MachineState → MachineState
faulted faults m = with_faults m (faults_in faults (made_of m) (coming_met m))

-- ---- the run

-- one step, behind what is due in front of it
unfoldable pub turned : List PlannedFault → Standing → Standing
turned faults s = record { left = (arranged s).left; machine = stepped (faulted faults (arranged s).machine) }

abbrev pub turned_times : ℕ → List PlannedFault → Standing → Standing
turned_times zero faults s = s
turned_times (suc n) faults s = turned faults (turned_times n faults s)

-- the faults that are found on the way: all of the text, where one of them is by time or by command; else none, since
-- those by number are planned from the beginning on
abbrev pub found_in : Timed → List PlannedFault
found_in timed = if timed.is_timed then timed.faults else []

abbrev pub planned_in : ChannelJob → Timed → List Planned
planned_in base timed = if timed.is_timed then [] else base.plan

-- the controller of a job before any message, with room for the actions that are still to come
abbrev pub at_beginning : ChannelJob → Timed → Standing
at_beginning base timed = record {
  left = timed.whens;
  machine = with_room (started (code_of_tree base.tree) (bus_of base) (planned_in base timed) base.actions)
      (length timed.whens);
}

-- the same, with room for so many actions more
abbrev pub begun_beside : ℕ → ChannelJob → Timed → Standing
begun_beside more base timed = record {
  left = timed.whens;
  machine = with_room (started (code_of_tree base.tree) (bus_of base) (planned_in base timed) base.actions)
      (length timed.whens + more);
}

-- by so many turns it has ended: each step of its code is one, and each message
abbrev pub most_turns : ChannelJob → ℕ
most_turns base = budget (code_of_tree base.tree).operations + 1000000 + 1

-- the controller at its end
unfoldable pub run_out : ChannelJob → Timed → MachineState
run_out base timed = (turned_times (most_turns base) (found_in timed) (at_beginning base timed)).machine

-- ---- the job

abbrev pub is_none : List TimedAction → Bool
is_none [] = true
is_none (w ∷ ws) = false

-- no line is by time or by command
abbrev pub says_nothing : Timed → Bool
says_nothing timed = is_none timed.whens && not timed.is_timed

-- the job by numbers alone: each action that was done, at its number, and the faults, at the numbers of the messages
-- that they were planned for; where no line is by time or by command, the job itself
abbrev pub resolved : ChannelJob → Timed → ChannelJob
resolved base timed = record base {
  actions = if says_nothing timed then base.actions else (run_out base timed).placed;
  plan = if says_nothing timed then base.plan else (run_out base timed).plan;
}

-- ---- where all actions are placed already

-- the plan of a job where the placed actions are these, whatever its lines say of them by time and by command: the
-- faults that are due then, at the numbers of the messages that they are due at; where none is by time or by command,
-- the job's plan
abbrev pub plan_under : ChannelJob → Timed → List Placed → List Planned
plan_under base timed placed =
    if timed.is_timed
    then (run_out (record base { actions = placed }) (record timed { whens = [] })).plan
    else base.plan
