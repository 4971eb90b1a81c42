-- Where the channels of a recording are at a place in it: behind so many of its messages (own choice).
use Rattle.std.specs.Prelude.{◌≡◌, ℕ, ◌==◌, List, map, take, count_by}
use Rattle.mil_bus.specs.Exchange.{played}
use Rattle.bc_machine.specs.Running.{MachineState}
use Rattle.job_file.specs.Jobs.{JobState, job_in}
use Rattle.job_file.specs.Meaning.{bus_after, made_after}
use Rattle.job_file.specs.Machines.{IsOf, IsLatestOutcome}
use Rattle.ch11_f1.specs.BodyReading.{Message}
use Rattle.ch11_recording.specs.Items.{last_number}
use Rattle.ch11_reader.specs.Recording.{Found}
use Rattle.ch11_reader.specs.Contents.{heard_in}
use Rattle.bench_report.specs.Reports.{ChannelPart}
use Rattle.replay.specs.Accord.{kept_in}

-- the channel of each message of the file, in the file's order
abbrev pub heard_channels : List Found → List ℕ
heard_channels found = map (λ (h : ℕ × Message). h.0) (heard_in found)

-- how many of the first messages of the file, as many as the place says, are of a channel
abbrev pub heard_of : List Found → ℕ → ℕ → ℕ
heard_of found place channel = count_by (λ c. c == channel) (take place (heard_channels found))

-- the number in its channel of the latest of them, 0 where there is none: the file has the kept messages of the job, in
-- order
abbrev pub latest_kept_number : List Found → ℕ → JobState → ChannelPart → ℕ
latest_kept_number found place job part = last_number (take (heard_of found place job.channel) (kept_in job part))

-- A controller that stands where a job is after so many messages, under the placed actions of the report. Messages that
-- were refused have happened, and the bus is as they left it.
pub record IsAfter (job : JobState) (part : ChannelPart) (number : ℕ) (m : MachineState) : Type 0 where
  pub of_job : IsOf (job_in job) part.placed m
  pub number_is : m.point.number ≡ number
  pub bus : played m.point.state ≡ bus_after (job_in job) part.placed number
  pub made : m.made ≡ made_after (job_in job) part.placed number
  pub told : IsLatestOutcome m
