-- When jobs, the report of a run and a recording agree (own choice).
use Rattle.std.specs.Prelude.{◌≡◌, ℕ, ◌==◌, Bool, true, List, length, map, slice_get, Some}
use Rattle.std.specs.List.{AllByRecursion, list_any}
use Rattle.ch11_f1.specs.declared.Record.{Record}
use Rattle.job_file.specs.Jobs.{JobState, job_in}
use Rattle.job_file.specs.Meaning.{records}
use Rattle.ch11_f1.specs.Again.{as_message}
use Rattle.ch11_builder.specs.Packet.{Numbered, messages_of}
use Rattle.ch11_reader.specs.Recording.{Found, holds_messages}
use Rattle.ch11_reader.specs.Contents.{reading}
use Rattle.bench_report.specs.Reports.{ChannelPart}
use Rattle.bench_settings.specs.Lawful.{channels_of}
use Rattle.bench_settings.specs.Kept.{kept_records}

-- the channels of a report, in its order
abbrev pub reported : List ChannelPart → List ℕ
reported parts = map (λ (p : ChannelPart). p.channel) parts

-- the records of all messages that a job means, under the actions that the report says were placed
abbrev pub played : JobState → ChannelPart → List Record
played job part = records (job_in job) part.placed

-- those that the report does not list as refused, each with its number, counted from 1
abbrev pub kept_in : JobState → ChannelPart → List Numbered
kept_in job part = kept_records part.refused (played job part)

-- one of these channels has the number
abbrev pub is_one : List ℕ → ℕ → Bool
is_one channels channel = list_any (λ c. c == channel) channels

-- each packet of MIL-STD-1553 messages, also one with no message, is of one of these channels
abbrev pub AreOfChannels : List ℕ → List Found → Type 0
AreOfChannels channels found = AllByRecursion
    (λ p. holds_messages p.header ≡ true → is_one channels p.header.channel ≡ true) found

-- the report says how many messages the job makes, and the file has those that were not refused, in order and once
pub record AgreesOn (found : List Found) (job : JobState) (part : ChannelPart) : Type 0 where
  pub made : part.made ≡ length (played job part)
  pub read : reading found job.channel ≡ map as_message (messages_of (kept_in job part))

pub record Agrees (jobs : List JobState) (parts : List ChannelPart) (found : List Found) : Type 0 where
  -- the report names the jobs' channels in their order
  pub channels : reported parts ≡ channels_of jobs
  pub known : AreOfChannels (channels_of jobs) found
  -- each job with its part of the report
  pub each : (index : ℕ) (job : JobState) (part : ChannelPart) → slice_get jobs index ≡ Some job
      → slice_get parts index ≡ Some part → AgreesOn found job part
