-- The channels of jobs, report and file, as they are compared when a recording is opened.
use Rattle.std.specs.Prelude.{◌≡◌, ℕ, ◌<◌, List, replicate, slice_get, Some}
use Rattle.std.specs.List.{flat_map}
use Rattle.ch11_reader.specs.declared.packet.Packet.{Packet}
use Rattle.job_file.specs.Jobs.{JobState}
use Rattle.ch11_reader.specs.Recording.{Found}
use Rattle.bench_report.specs.Reports.{ChannelPart}
use Rattle.replay.specs.declared.error.ReplayError.{ReplayError}
use Rattle.replay.specs.declared.error.ReplayError.TheVariants as error
use Rattle.replay.specs.Accord.{AgreesOn}
use Rattle.replay.specs.Differences.{IsFirstJob}

-- the first of these jobs agree, each with its part of the report
abbrev pub AgreeBefore : List Found → List JobState → List ChannelPart → ℕ → Type 0
AgreeBefore found jobs parts n =
    (i : ℕ) (job : JobState) (part : ChannelPart) → i < n → slice_get jobs i ≡ Some job
    → slice_get parts i ≡ Some part → AgreesOn found job part

-- Y1 only at the first job at fault, or want of memory
abbrev pub FailsIn : List JobState → List ChannelPart → List Found → ReplayError → Type 0
FailsIn jobs parts found (error.Mismatch channel number) = IsFirstJob jobs parts found channel number
FailsIn jobs parts found error.Past = ⊥
FailsIn jobs parts found error.Start = ⊥
FailsIn jobs parts found error.Memory = Unit {0}

-- the channel of each message of packets, as they are listed
abbrev pub channels_in : List Packet → List ℕ
channels_in packets = flat_map (λ (e : Packet). replicate e.count e.header.channel) packets
