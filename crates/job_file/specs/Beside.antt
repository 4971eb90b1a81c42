-- What a job means beside hosts that post actions while it runs (own choice): in front of each message what the job's
-- lines say by time and by command is done first, then what the hosts post; and the faults are those that are due at
-- the message that is sent then.
use Rattle.std.specs.Prelude.{◌≡◌, ℕ, Bool, true, false, List, [], ◌++◌, map, ◌⊎◌, ◌≢◌, None}
use Rattle.bc_machine.specs.declared.placed.Placed.{Placed}
use Rattle.bc_machine.specs.declared.placed.HostAction.{HostAction}
use Rattle.bc_machine.specs.NextMessage.{coming_talk}
use Rattle.bc_machine.specs.Posting.{with_placed, at_next}
use Rattle.bc_machine.specs.Running.{MachineState, HasEnded, stepped}
use Rattle.job_moments.specs.Planning.{PlannedFault}
use Rattle.job_file.specs.Jobs.{JobState, said_in}
use Rattle.job_file.specs.Timed.{Standing, arranged, faulted, found_in, begun_beside, says_nothing}

-- these actions are placed at the next number, behind those that are placed
abbrev pub with_posted : List HostAction → MachineState → MachineState
with_posted posted m = with_placed m (m.placed ++ map (at_next m) posted)

-- a message comes next, or none will
abbrev pub StandsStill : MachineState → Type 0
StandsStill m = (coming_talk m ≢ None) ⊎ HasEnded m

-- one step, behind what is due in front of it and what is posted then
unfoldable pub turned_beside : List HostAction → List PlannedFault → Standing → Standing
turned_beside posted faults s = record {
  left = (arranged s).left;
  machine = stepped (faulted faults (with_posted posted (arranged s).machine));
}

-- From where it began it has come so far, under these posts: turn by turn, and what is posted is taken in front of a
-- message, or where none comes any more.
pub data GoesBeside (faults : List PlannedFault) (first : Standing) : List Placed → Standing → Type 0 where
  Begins : GoesBeside faults first [] first
  Turns : (posts : List Placed) (s : Standing) → GoesBeside faults first posts s
      → GoesBeside faults first posts (turned_beside [] faults s)
  Takes : (posts : List Placed) (s : Standing) (posted : List HostAction) → GoesBeside faults first posts s
      → StandsStill (arranged s).machine
      → GoesBeside faults first (posts ++ map (at_next (arranged s).machine) posted) (turned_beside posted faults s)

-- a job with actions besides its own; at one number its own come first
abbrev pub with_posts : JobState → List Placed → JobState
with_posts job posts = record job { actions = job.actions ++ posts }

-- what the job of a controller is: its actions are those that are placed, its faults those that are planned
abbrev pub as_played : JobState → MachineState → JobState
as_played job m = record job { actions = m.placed; plan = m.plan }

-- the job of a run beside hosts, where a line is by time or by command and there was room for so many posts
pub record IsPlayedBeside (room : ℕ) (job : JobState) (posts : List Placed) (live : JobState) : Type 0 where
  pub last : Standing
  pub goes : GoesBeside (found_in job.timed) (begun_beside room (said_in job) job.timed) posts last
  pub ended : HasEnded last.machine
  pub live_is : live ≡ as_played job last.machine

-- the job that a run beside hosts means under these posts
abbrev pub IsLiveIn : Bool → ℕ → JobState → List Placed → JobState → Type 0
IsLiveIn true room job posts live = live ≡ with_posts job posts
IsLiveIn false room job posts live = IsPlayedBeside room job posts live

abbrev pub IsLive : ℕ → JobState → List Placed → JobState → Type 0
IsLive room job posts live = IsLiveIn (says_nothing job.timed) room job posts live
