-- The first difference between jobs, the report of a run and a recording: a channel, and the number of a message of it,
-- 0 where the channels themselves disagree (own choice).
use Rattle.std.specs.Prelude.{◌≡◌, ◌≢◌, ℕ, ◌+◌, ◌<◌, true, false, min, ◌⊎◌, List, ◌∷◌, ◌++◌, length, take, slice_get}
use Rattle.std.specs.Prelude.{Option, Some, None}
use Rattle.ch11_f1.specs.declared.Record.{Record}
use Rattle.job_file.specs.Jobs.{JobState}
use Rattle.ch11_f1.specs.Again.{as_message}
use Rattle.ch11_builder.specs.Packet.{Numbered}
use Rattle.ch11_recording.specs.Items.{numbered}
use Rattle.ch11_reader.specs.Recording.{Found, holds_messages}
use Rattle.ch11_reader.specs.Contents.{reading}
use Rattle.bench_report.specs.Reports.{ChannelPart}
use Rattle.bench_settings.specs.Lawful.{channels_of}
use Rattle.bench_settings.specs.Kept.{kept_records}
use Rattle.replay.specs.Accord.{reported, played, is_one, AreOfChannels, AgreesOn, Agrees}

-- ---- of the channels

-- the first where it is there, else the second
abbrev pub first_of : Option ℕ → Option ℕ → Option ℕ
first_of (Some c) other = Some c
first_of None other = other

-- at the first place where the lists of channels differ, the job's channel, or the report's where no job is left
pub record IsWrongChannel (jobs parts : List ℕ) (channel : ℕ) : Type 0 where
  pub place : ℕ
  pub alike : take place parts ≡ take place jobs
  pub differ : slice_get parts place ≢ slice_get jobs place
  pub named : first_of (slice_get jobs place) (slice_get parts place) ≡ Some channel

-- the channel of the first packet of MIL-STD-1553 messages whose channel no job has
pub record IsStranger (jobs : List ℕ) (found : List Found) (channel : ℕ) : Type 0 where
  pub before : List Found
  pub packet : Found
  pub later : List Found
  pub file : found ≡ before ++ packet ∷ later
  pub known : AreOfChannels jobs before
  pub messages : holds_messages packet.header ≡ true
  pub unknown : is_one jobs packet.header.channel ≡ false
  pub named : packet.header.channel ≡ channel

-- ---- of one job

-- the records that should be in the file, as far as the report says that messages were made
abbrev pub awaited : JobState → ChannelPart → List Numbered
awaited job part = kept_records part.refused (take part.made (played job part))

-- a kept number whose record in the file is another or is missing
pub record IsUnlike (found : List Found) (job : JobState) (part : ChannelPart) (number : ℕ) : Type 0 where
  pub place : ℕ
  pub message : Record
  pub kept : slice_get (awaited job part) place ≡ Some (numbered number message)
  pub unlike : slice_get (reading found job.channel) place ≢ Some (as_message message)

-- one more than were made, where the file has one record too many
pub record IsLeftOver (found : List Found) (job : JobState) (part : ChannelPart) (number : ℕ) : Type 0 where
  pub more : length (awaited job part) < length (reading found job.channel)
  pub number_is : number ≡ part.made + 1

-- one more than the smaller count, where the report does not say how many messages the job makes
pub record IsMiscounted (job : JobState) (part : ChannelPart) (number : ℕ) : Type 0 where
  pub wrong : part.made ≢ length (played job part)
  pub number_is : number ≡ min part.made (length (played job part)) + 1

-- something differs at this number
abbrev pub IsAtFault : List Found → JobState → ChannelPart → ℕ → Type 0
IsAtFault found job part number = IsUnlike found job part number
    ⊎ (IsLeftOver found job part number ⊎ IsMiscounted job part number)

-- it is the least such number
pub record IsFirstNumberAtFault (found : List Found) (job : JobState) (part : ChannelPart) (number : ℕ) : Type 0 where
  pub fault : IsAtFault found job part number
  pub least : (n : ℕ) → n < number → ¬ IsAtFault found job part n

-- ---- of all jobs

-- the first job at which something differs
pub record IsFirstJob (jobs : List JobState) (parts : List ChannelPart) (found : List Found)
    (channel number : ℕ) : Type 0 where
  pub index : ℕ
  pub job : JobState
  pub part : ChannelPart
  pub job_there : slice_get jobs index ≡ Some job
  pub part_there : slice_get parts index ≡ Some part
  pub before : (i : ℕ) (j : JobState) (p : ChannelPart) → i < index → slice_get jobs i ≡ Some j
      → slice_get parts i ≡ Some p → AgreesOn found j p
  pub named : job.channel ≡ channel
  pub first : IsFirstNumberAtFault found job part number

-- The channels of jobs and report are looked at first, then those of the file, then the messages of job after job.
abbrev pub IsFirstDifference : List JobState → List ChannelPart → List Found → ℕ → ℕ → Type 0
IsFirstDifference jobs parts found channel number =
    ((number ≡ 0) × IsWrongChannel (channels_of jobs) (reported parts) channel)
    ⊎ (((number ≡ 0) × (reported parts ≡ channels_of jobs) × IsStranger (channels_of jobs) found channel)
    ⊎ ((reported parts ≡ channels_of jobs) × AreOfChannels (channels_of jobs) found
    × IsFirstJob jobs parts found channel number))

-- where there is a first difference, they do not agree
abbrev pub DifferenceExcludesAccord : Type 0
DifferenceExcludesAccord =
    (jobs : List JobState) (parts : List ChannelPart) (found : List Found) (channel number : ℕ)
    → IsFirstDifference jobs parts found channel number → ¬ Agrees jobs parts found
