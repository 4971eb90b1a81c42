-- A job that is played again beside the messages of its channel in the file.
use Rattle.std.specs.Prelude.{◌≡◌, ◌≢◌, ℕ, ◌+◌, true, false, ◌⊎◌, List, [], ◌∷◌, ◌++◌, length, map, take, slice_get}
use Rattle.std.specs.Prelude.{Some, ◌==◌, Bool}
use Rattle.std.specs.List.{list_any}
use Rattle.ch11_f1.specs.declared.Record.{Record}
use Rattle.bc_machine.specs.Running.{MachineState}
use Rattle.job_file.specs.Jobs.{JobState}
use Rattle.ch11_f1.specs.BodyReading.{Message}
use Rattle.ch11_f1.specs.Again.{as_message}
use Rattle.ch11_builder.specs.Packet.{messages_of}
use Rattle.ch11_reader.specs.Recording.{Found}
use Rattle.ch11_reader.specs.Contents.{reading}
use Rattle.bench_report.specs.Reports.{ChannelPart}
use Rattle.bench_settings.specs.Kept.{kept_records}
use Rattle.replay.specs.declared.error.ReplayError.{ReplayError}
use Rattle.replay.specs.declared.error.ReplayError.TheVariants as error
use Rattle.replay.specs.declared.playing.Played.{Played}
use Rattle.replay.specs.declared.playing.Played.TheVariants.{Kept, Refused, Unlike}
use Rattle.replay.specs.Accord.{played}
use Rattle.replay.specs.Differences.{IsFirstNumberAtFault}
use Rattle.replay.specs.declared.tracks.Mark.{Mark}
use Rattle.replay.specs.Tracks.{IsThere, AreMarks}

-- the report lists the number as refused
abbrev pub is_listed : ChannelPart → ℕ → Bool
is_listed part number = list_any (λ n. n == number) part.refused

-- the next message was made, behind so many, and the file has it next
pub record IsNextRecorded (job : JobState) (part : ChannelPart) (n : ℕ) (m : MachineState)
    (heard rest : List Message) : Type 0 where
  pub message : Record
  pub comes : slice_get (played job part) n ≡ Some message
  pub there : IsThere job part (n + 1) m
  pub listed : is_listed part (n + 1) ≡ false
  pub heard_is : heard ≡ as_message message ∷ rest

-- it was made, and the report lists it as refused
pub record IsNextRefused (job : JobState) (part : ChannelPart) (n : ℕ) (m : MachineState)
    (heard rest : List Message) : Type 0 where
  pub message : Record
  pub comes : slice_get (played job part) n ≡ Some message
  pub there : IsThere job part (n + 1) m
  pub listed : is_listed part (n + 1) ≡ true
  pub heard_is : heard ≡ rest

-- it was made and should be in the file, which has none or another one next
pub record IsNextMissing (job : JobState) (part : ChannelPart) (n : ℕ) (heard : List Message) : Type 0 where
  pub message : Record
  pub comes : slice_get (played job part) n ≡ Some message
  pub listed : is_listed part (n + 1) ≡ false
  pub other : slice_get heard 0 ≢ Some (as_message message)

-- the job makes no more, or its next message should be in the file, which has none or another one next
abbrev pub StopsBehind : JobState → ChannelPart → ℕ → List Message → Type 0
StopsBehind job part n heard = (n ≡ length (played job part)) ⊎ IsNextMissing job part n heard

-- what is told of the message behind so many
abbrev pub TellsMessage : JobState → ChannelPart → ℕ → Played → MachineState → List Message → List Message → Type 0
TellsMessage job part n Kept m heard rest = IsNextRecorded job part n m heard rest
TellsMessage job part n Refused m heard rest = IsNextRefused job part n m heard rest
TellsMessage job part n Unlike m heard rest = StopsBehind job part n heard

-- the job makes no more, and the file has no more
abbrev pub IsOver : JobState → ChannelPart → ℕ → List Message → Type 0
IsOver job part n heard = (n ≡ length (played job part)) × (heard ≡ [])

-- the job makes one more, or else the file has one more
abbrev pub HasOneMore : JobState → ChannelPart → ℕ → List Message → Type 0
HasOneMore job part n heard =
    ((message : Record) × (slice_get (played job part) n ≡ Some message))
    ⊎ ((n ≡ length (played job part)) × ((message : Message) × (rest : List Message) × (heard ≡ message ∷ rest)))

-- So many messages were played: those that were kept stood first in the file, and each of them has left its mark.
pub record IsPlaying (found : List Found) (job : JobState) (part : ChannelPart) (n : ℕ) (m : MachineState)
    (heard : List Message) (marks : List Mark) : Type 0 where
  pub there : IsThere job part n m
  pub read : reading found job.channel
      ≡ map as_message (messages_of (kept_records part.refused (take n (played job part)))) ++ heard
  pub all : AreMarks job part (kept_records part.refused (take n (played job part))) marks

-- Y1 only at the first number at fault, or want of memory
abbrev pub FailsAt : List Found → JobState → ChannelPart → ReplayError → Type 0
FailsAt found job part (error.Mismatch channel number) = (job.channel ≡ channel)
    × IsFirstNumberAtFault found job part number
FailsAt found job part error.Past = ⊥
FailsAt found job part error.Start = ⊥
FailsAt found job part error.Memory = Unit {0}
