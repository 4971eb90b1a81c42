-- The message that a controller sends next, as a function of where it stands: when it starts, and as what it is sent.
use Rattle.std.specs.Prelude.{◌≡◌, ℕ, ◌+◌, List, [], ◌∷◌, ◌++◌, Bool, true, false, Option, Some, None, slice_get}
use Rattle.std.specs.Option.{option_map}
use Rattle.mil_word.specs.declared.Line.{Line}
use Rattle.mil_host.specs.declared.actions.Action.{Action}
use Rattle.mil_line.specs.Plans.{Planned}
use Rattle.mil_message.specs.declared.messages.Message.{Message}
use Rattle.mil_bus.specs.declared.talks.Talk.{Talk}
use Rattle.frame_code.specs.declared.Op.{Op}
use Rattle.frame_code.specs.declared.Op.TheVariants as op
use Rattle.controller_host.specs.Values.{InsertionValue}
use Rattle.bc_machine.specs.declared.next_message.NextMessage.{NextMessage}
use Rattle.bc_machine.specs.declared.placed.HostAction.TheVariants.{Terminal}
use Rattle.bc_machine.specs.Controller.{own_talk, insertion_talk}
use Rattle.bc_machine.specs.Moves.{line_of}
use Rattle.bc_machine.specs.Running.{MachineState, setting, bus_run, waiting, stops_at, stepped}
use Rattle.bc_machine.specs.Coming.{IsStill}
use Rattle.bc_machine.specs.Planning.{with_plan}
use Rattle.bc_machine.specs.Posting.{with_placed}
use Rattle.bc_machine.specs.UnderWay.{IsUnderWay}

-- the talk of a message of the script, where it is there: on its own line, or on the one other than the last message's
abbrev pub talk_of_own : MachineState → Bool → Option (Line × Message) → Option Talk
talk_of_own m alternates None = None
talk_of_own m alternates (Some x) =
    Some (own_talk (setting m) (line_of alternates m.at.line x.0) x.1 m.point.gap (bus_run m))

-- the talk that an operation makes, if it makes one
abbrev pub talk_of_operation : MachineState → Option Op → Option Talk
talk_of_operation m (Some (op.Send i)) = talk_of_own m false (slice_get m.code.messages i)
talk_of_operation m (Some (op.Alt i)) = talk_of_own m true (slice_get m.code.messages i)
talk_of_operation m _ = None

-- where an inserted message waits, it goes first
abbrev pub talk_behind : MachineState → Option InsertionValue → Option Talk
talk_behind m (Some x) = Some (insertion_talk (setting m) m.point.gap x (bus_run m))
talk_behind m None = talk_of_operation m (slice_get m.code.operations m.at.place)

-- the talk that the next step makes, if it makes one
unfoldable pub coming_talk : MachineState → Option Talk
coming_talk m = talk_behind m (waiting m)

-- what is known of a talk before it is made: when it starts, and its message
abbrev pub in_advance : Talk → NextMessage
in_advance talk = record { start = talk.start; message = talk.message }

-- what is told of the message that comes next
abbrev pub told_next : MachineState → Option NextMessage
told_next m = option_map in_advance (coming_talk m)

-- the next step makes this talk: the controller stands at an operation that sends a message or ends the program, the
-- talk is the latest on the bus behind the step, and one message more was made
pub record IsMade (m : MachineState) (talk : Talk) : Type 0 where
  pub stops : stops_at (slice_get m.code.operations m.at.place) ≡ true
  pub talks : (stepped m).point.state.talks ≡ talk ∷ m.point.state.talks
  pub number : (stepped m).point.number ≡ m.point.number + 1

-- the next step makes this talk, or it makes none
abbrev pub Makes : MachineState → Option Talk → Type 0
Makes m None = IsStill m
Makes m (Some talk) = IsMade m talk

-- what comes next is what the next step makes
abbrev pub NextMessageIsSent : Type 0
NextMessageIsSent = (m : MachineState) → IsUnderWay m → Makes m (coming_talk m)

-- what is told of it hangs on no planned fault
abbrev pub FaultsAreNotTold : Type 0
FaultsAreNotTold = (m : MachineState) (plan : List Planned) → told_next (with_plan m plan) ≡ told_next m

-- nor on what the host of a terminal is asked for
abbrev pub TerminalActionsAreNotTold : Type 0
TerminalActionsAreNotTold = (m : MachineState) (number address : ℕ) (action : Action)
    → told_next (with_placed m (m.placed ++ record { number = number; action = Terminal address action } ∷ []))
    ≡ told_next m
