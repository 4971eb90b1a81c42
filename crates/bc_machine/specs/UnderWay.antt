-- What every controller keeps, and what a step tells.
use Rattle.std.specs.Prelude.{◌≡◌, ℕ, ◌+◌, ◌*◌, ◌^◌, ◌≤◌, ◌<◌, ◌∷◌, length, count_by, false, slice_get, Some}
use Rattle.mil_message.specs.World.{Point}
use Rattle.mil_bus.specs.declared.outcomes.Outcome.{Outcome}
use Rattle.mil_bus.specs.declared.talks.Talk.{Talk}
use Rattle.mil_bus.specs.Exchange.{played}
use Rattle.ch11_f1.specs.declared.Record.{Record}
use Rattle.mil_monitor.specs.Observed.{observed}
use Rattle.frame_code.specs.Table.{goes_on, start, run}
use Rattle.frame_code.specs.Loadable.{IsLoadable}
use Rattle.frame_load.specs.Budget.{budget, worst_messages, one_period}
use Rattle.frame_load.specs.Runs.{paid}
use Rattle.frame_load.specs.Judging.{IsWithin, HasShortPeriods}
use Rattle.bc_machine.specs.declared.Stepped.{Stepped}
use Rattle.bc_machine.specs.declared.Stepped.TheVariants.{Ran, Sent, Inserted, Halted}
use Rattle.bc_machine.specs.Hosting.{inserted_in}
use Rattle.bc_machine.specs.Controller.{BusRun, outcome_in, inserting_many}
use Rattle.bc_machine.specs.Running.{MachineState, HasEnded, setting, world_in, beginning, frames_point, is_own}
use Rattle.bc_machine.specs.Running.{most_inserted, clock_in, ended_in, stops_at}
use Rattle.bc_machine.specs.Frames.{HaveBegun}

-- the code's run from the beginning came to this point after the steps that were taken, and behind it so many inserted
-- messages were sent, which are none where the next operation waits for none
pub record IsReached (m : MachineState) : Type 0 where
  pub point : Point BusRun Outcome
  pub count : ℕ
  pub run : run (world_in m) m.taken m.code (start m.code) (beginning m.begun)
      ≡ goes_on (record { at = m.at; point = point })
  pub here : frames_point m ≡ record point { state = inserting_many (setting m) count point.gap point.state }
  pub sent : length m.made ≡ length point.state.made + count
  pub idle : stops_at (slice_get m.code.operations m.at.place) ≡ false → count ≡ 0

-- a loaded code stands where its run from the beginning comes after the steps that were taken, within its budget
pub record IsUnderWay (m : MachineState) : Type 0 where
  pub loadable : IsLoadable m.code
  pub within : IsWithin m.code
  pub short : HasShortPeriods m.code
  pub reached : IsReached m
  pub steps : m.taken ≤ budget m.code.operations
  pub number : m.point.number ≡ length m.made
  pub messages : count_by is_own m.made ≤ worst_messages m.code.operations
  pub inserts : inserted_in m.made ≤ most_inserted m.code
  -- a message moves now by at most 2^24 ticks, an inserted one from its tick on, at most 2^47; and the end of a frame
  -- by at most its period
  pub clock : clock_in m
      ≤ 2 ^ 47 + paid (world_in m) one_period m.taken m.code (start m.code) (beginning m.begun)
      + m.point.number * 2 ^ 24
  pub begun : HaveBegun m

-- a message was sent, and this is its record: its stamp is below 2^48, and never before the end of the talk before
pub record IsMessage (old new : MachineState) (r : Record) : Type 0 where
  pub talk : Talk
  pub recorded : r ≡ observed talk
  pub talks : new.point.state.talks ≡ talk ∷ old.point.state.talks
  pub number : new.point.number ≡ old.point.number + 1
  pub latest : new.latest ≡ Some (outcome_in talk)
  pub small : r.stamp < 2 ^ 48
  -- it does not start before all that was sent has ended
  pub follows : ended_in old ≤ r.stamp
  pub ends : r.stamp ≤ ended_in new

-- a message of the script: it starts no sooner than at the least start
pub record IsSent (old new : MachineState) (r : Record) : Type 0 where
  pub message : IsMessage old new r
  pub last : new.point.last ≡ new.latest
  pub taken : new.taken ≡ old.taken + 1
  pub paced : clock_in old ≤ r.stamp

-- an inserted one: nothing else of the controller moves
pub record IsInserted (old new : MachineState) (r : Record) : Type 0 where
  pub message : IsMessage old new r
  pub last : new.point.last ≡ old.point.last
  pub at : new.at ≡ old.at
  pub taken : new.taken ≡ old.taken
  pub least_start : new.point.state.least_start ≡ old.point.state.least_start

-- a step that sent nothing: number and outcomes stand still, and what was played on the bus; at most its least start
-- rises
pub record IsQuiet (old new : MachineState) : Type 0 where
  pub state : played new.point.state ≡ played old.point.state
  pub later : clock_in old ≤ clock_in new
  pub number : new.point.number ≡ old.point.number
  pub last : new.point.last ≡ old.point.last
  pub latest : new.latest ≡ old.latest
  pub taken : new.taken ≡ old.taken + 1

pub record IsHalted (old new : MachineState) : Type 0 where
  pub ended : HasEnded old
  pub same : new ≡ old

-- what an answer tells of the step
abbrev pub TellsStep : MachineState → MachineState → Stepped → Type 0
TellsStep old new Ran = IsQuiet old new
TellsStep old new (Sent r) = IsSent old new r
TellsStep old new (Inserted r) = IsInserted old new r
TellsStep old new Halted = IsHalted old new
