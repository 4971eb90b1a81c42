-- What the debugger keeps of each job.
use Rattle.std.specs.Prelude.{◌≡◌, ℕ, suc, List, length, map, take, slice_get, Some, Option}
use Rattle.frame_tree.specs.Bounds.{IsSound}
use Rattle.mil_bus.specs.declared.outcomes.Outcome.{Outcome}
use Rattle.bc_machine.specs.Running.{MachineState}
use Rattle.job_file.specs.Jobs.{JobState, tree_in, job_in}
use Rattle.job_file.specs.Machines.{IsOf, IsLatestOutcome}
use Rattle.ch11_builder.specs.Packet.{Numbered}
use Rattle.ch11_recording.specs.Items.{last_number}
use Rattle.bench_report.specs.Reports.{ChannelPart}
use Rattle.replay.specs.declared.tracks.Mark.{Mark}
use Rattle.replay.specs.Accord.{kept_in}
use Rattle.replay.specs.Places.{IsAfter}

-- a job with its part of the report
pub record Pair : Type 0 where
  pub job : JobState
  pub part : ChannelPart

abbrev pub jobs_in : List Pair → List JobState
jobs_in pairs = map (λ (p : Pair). p.job) pairs

abbrev pub parts_in : List Pair → List ChannelPart
parts_in pairs = map (λ (p : Pair). p.part) pairs

-- the job's controller behind the message of a number
pub record IsThere (job : JobState) (part : ChannelPart) (number : ℕ) (m : MachineState) : Type 0 where
  pub of_job : IsOf (job_in job) part.placed m
  pub number_is : m.point.number ≡ number
  pub told : IsLatestOutcome m

-- a mark that the job's controller left behind the message of a number
pub record IsMarked (job : JobState) (part : ChannelPart) (number : ℕ) (mark : Mark) : Type 0 where
  pub machine : MachineState
  pub there : IsThere job part number machine
  pub number_is : mark.number ≡ machine.point.number
  pub last_is : mark.last ≡ machine.latest

-- one mark before all messages, and one behind each of these records
pub record AreMarks (job : JobState) (part : ChannelPart) (ns : List Numbered) (marks : List Mark) : Type 0 where
  pub counted : length marks ≡ suc (length ns)
  pub each : (k : ℕ) (mark : Mark) → slice_get marks k ≡ Some mark → IsMarked job part (last_number (take k ns)) mark

pub record IsTrack (job : JobState) (part : ChannelPart) (channel : ℕ) (marks : List Mark) : Type 0 where
  pub sound : IsSound (tree_in job)
  pub channel_is : channel ≡ job.channel
  pub all : AreMarks job part (kept_in job part) marks

-- the outcome of the message of a number, none before any
pub record IsLast (job : JobState) (part : ChannelPart) (number : ℕ) (last : Option Outcome) : Type 0 where
  pub machine : MachineState
  pub after : IsAfter job part number machine
  pub told : last ≡ machine.latest
