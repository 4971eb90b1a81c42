-- The controller of a job, and what is known of it as it goes on.
use Rattle.std.specs.Prelude.{◌≡◌, List, [], ◌∷◌, length, take, Option, Some, None}
use Rattle.mil_bus.specs.declared.talks.Talk.{Talk}
use Rattle.mil_bus.specs.declared.outcomes.Outcome.{Outcome}
use Rattle.mil_bus.specs.Exchange.{played}
use Rattle.frame_tree.specs.Bounds.{IsSound}
use Rattle.frame_asm.specs.Shapes.{code_of_tree}
use Rattle.bc_machine.specs.declared.placed.Placed.{Placed}
use Rattle.bc_machine.specs.Controller.{outcome_in}
use Rattle.bc_machine.specs.Running.{MachineState, HasEnded, started, stepped}
use Rattle.bc_machine.specs.UnderWay.{IsUnderWay}
use Rattle.job_file.specs.ChannelJobs.{ChannelJob}
use Rattle.job_file.specs.Meaning.{bus_of, records_in, records, bus_after, made_after}

-- a controller under way that runs the job's script, from new terminals, under the job's planned faults and these
-- placed actions
pub record IsOf (job : ChannelJob) (placed : List Placed) (m : MachineState) : Type 0 where
  pub code : m.code ≡ code_of_tree job.tree
  pub plan : m.plan ≡ job.plan
  pub actions : m.placed ≡ placed
  pub begun : m.begun ≡ bus_of job
  pub under_way : IsUnderWay m

-- what the latest talk of a bus came to, which stands first; nothing before any
abbrev pub latest_outcome : List Talk → Option Outcome
latest_outcome [] = None
latest_outcome (talk ∷ earlier) = Some (outcome_in talk)

-- the latest outcome is that of the latest talk
abbrev pub IsLatestOutcome : MachineState → Type 0
IsLatestOutcome m = m.latest ≡ latest_outcome m.point.state.talks

-- its controller at the beginning is the job's
abbrev pub Starts : Type 0
Starts =
    (job : ChannelJob) (placed : List Placed)
    → IsUnderWay (started (code_of_tree job.tree) (bus_of job) job.plan placed)
    → IsOf job placed (started (code_of_tree job.tree) (bus_of job) job.plan placed)

-- and stays so with each step
abbrev pub StaysMachineOf : Type 0
StaysMachineOf = (job : ChannelJob) (placed : List Placed) (m : MachineState) → IsOf job placed m
    → IsUnderWay (stepped m)
    → IsOf job placed (stepped m)

-- as many records as messages were sent
abbrev pub CountsMessagesSent : Type 0
CountsMessagesSent =
    (job : ChannelJob) (placed : List Placed) (m : MachineState) → IsOf job placed m
    → m.point.number ≡ length (records_in m.point.state)

-- the records so far are the first of the job's, as many as messages were sent
abbrev pub RecordsSoFar : Type 0
RecordsSoFar =
    (job : ChannelJob) (placed : List Placed) (m : MachineState) → IsSound job.tree → IsOf job placed m
    → records_in m.point.state ≡ take m.point.number (records job placed)

-- what was played on the bus is what the job has played after that many messages
abbrev pub BusSoFar : Type 0
BusSoFar =
    (job : ChannelJob) (placed : List Placed) (m : MachineState) → IsSound job.tree → IsOf job placed m
    → played m.point.state ≡ bus_after job placed m.point.number

-- and the messages made are the job's first so many
abbrev pub MadeSoFar : Type 0
MadeSoFar =
    (job : ChannelJob) (placed : List Placed) (m : MachineState) → IsSound job.tree → IsOf job placed m
    → m.made ≡ made_after job placed m.point.number

-- where it has ended, the records are all of the job's
abbrev pub AllRecords : Type 0
AllRecords =
    (job : ChannelJob) (placed : List Placed) (m : MachineState) → IsSound job.tree → IsOf job placed m
    → HasEnded m
    → records_in m.point.state ≡ records job placed
