-- What a run of jobs came to (own choice): the items that the writer took, the file of these, and the report.
use Rattle.std.specs.Prelude.{◌≡◌, ◌≢◌, ℕ, ◌+◌, ◌-◌, ◌<◌, ◌≤◌, ◌==◌, not, List, [], ◌∷◌, length, map, sum, take, Option}
use Rattle.std.specs.Prelude.{Result, Ok, IfOk, IfErr, OnOk}
use Rattle.std.specs.List.{AllByRecursion, filter}
use Rattle.std.specs.Io.KnownBytes.{Appends}
use Rattle.ch11_f1.specs.declared.Record.{Record}
use Rattle.job_file.specs.Jobs.{JobState, job_in}
use Rattle.job_file.specs.Rooms.{most_items}
use Rattle.job_file.specs.Meaning.{records}
use Rattle.ch11_f1.specs.Again.{as_message}
use Rattle.ch11_builder.specs.Packet.{messages_of}
use Rattle.ch11_reader.specs.Recording.{Found, packets_in}
use Rattle.ch11_reader.specs.Contents.{reading}
use Rattle.ch11_recording.specs.declared.item.Item.{Item}
use Rattle.ch11_recording.specs.Items.{part_of, to_the_end}
use Rattle.ch11_recording.specs.WrittenFile.{written_file, closed_packets, whole_packets}
use Rattle.ch11_recording.specs.Recording.{AreDistinct}
use Rattle.ch11_recording.specs.Laws.{IsFormat, IsPrologue, IsItem}
use Rattle.bench_report.specs.Reports.{ChannelPart, RunReport, Rises}
use Rattle.bench_settings.specs.declared.settings.Settings.{Settings}
use Rattle.bench_settings.specs.Lawful.{format_of, channels_of, AreSettingsInRange, AreLawful}
use Rattle.bench_settings.specs.Placing.{placed_up_to}
use Rattle.bench_settings.specs.Kept.{kept_records}
use Rattle.bench_run.specs.declared.error.RunError.{RunError}
use Rattle.bench_run.specs.declared.error.RunError.TheVariants as fault

-- the records that a job means under its own actions
abbrev pub records_of : JobState → List Record
records_of job = records (job_in job) job.actions

-- how many items the jobs offer together at most, where up to so many actions are posted to each
abbrev pub most_in_all : ℕ → List JobState → ℕ
most_in_all posts jobs = sum (map (most_items posts) jobs)

-- the jobs of the other channels
abbrev pub others_than : ℕ → List JobState → List JobState
others_than channel jobs = filter (λ (j : JobState). not (j.channel == channel)) jobs

-- the records of a channel, with their numbers, below the record of a number, but for the refused
abbrev pub kept_below : ℕ → List ℕ → JobState → ℕ
kept_below number refused job = length (kept_records refused (take (number - 1) (records_of job)))

-- A job and its channel's part of the report: all of its messages were made, and the actions placed at them are the
-- job's; the items taken of the channel are those messages, in order and once, but for the refused, and its end mark. A
-- message is refused only where the queue may be full: its capacity is at most what the channel kept before and what
-- the others of the jobs that were given may have sent.
pub record IsPartOf (posts : ℕ) (given : List JobState) (s : Settings) (items : List Item) (job : JobState)
    (part : ChannelPart) : Type 0 where
  pub channel : part.channel ≡ job.channel
  pub made : part.made ≡ length (records_of job)
  pub placed : part.placed ≡ placed_up_to part.made job.actions
  pub rising : Rises 0 part.made part.refused
  pub taken : part_of job.channel items ≡ to_the_end job.channel (kept_records part.refused (records_of job))
  pub full : AllByRecursion (λ n. s.queue
      ≤ kept_below n part.refused job + most_in_all posts (others_than job.channel given)) part.refused

-- what the file gives for the channel are these records
abbrev pub IsReadAs : List Found → JobState → ChannelPart → Type 0
IsReadAs ps job part = reading ps job.channel
    ≡ map as_message (messages_of (kept_records part.refused (records_of job)))

-- the lists are as long, and what stands at the same place belongs together
abbrev pub ArePairs : {X Y : Type 0} → (X → Y → Type 0) → List X → List Y → Type 0
ArePairs P [] [] = Unit {0}
ArePairs P (x ∷ xs) (y ∷ ys) = P x y × ArePairs P xs ys
ArePairs P [] (y ∷ ys) = ⊥
ArePairs P (x ∷ xs) [] = ⊥

-- no job has the channel
abbrev pub IsOtherChannel : List JobState → ℕ → Type 0
IsOtherChannel jobs channel = AllByRecursion (λ c. c ≢ channel) (channels_of jobs)

-- A finished run: one list of items was taken, each of them with a channel and a message that fit a packet, none of
-- them of another channel than the jobs', and the bytes are their file, which is readable and gives each channel's
-- messages, and none of another channel. The jobs are those that were given, with the posts that were placed; how much
-- of the queue a channel may take hangs on the jobs as they were given.
pub record IsRun (posts : ℕ) (given jobs : List JobState) (s : Settings) (report : RunReport)
    (bytes : List ℕ) : Type 0 where
  pub items : List Item
  pub format : IsFormat (format_of s)
  pub sound : AllByRecursion IsItem items
  pub file : bytes ≡ written_file (format_of s) s.prologue.items items
  pub parts : ArePairs (IsPartOf posts given s items) jobs report.channels
  pub others : (channel : ℕ) → IsOtherChannel jobs channel → part_of channel items ≡ []
  pub packets : report.packets ≡ length (closed_packets (format_of s) items)
  pub found : List Found
  pub readable : packets_in bytes ≡ Ok found
  pub read : ArePairs (IsReadAs found) jobs report.channels
  pub silent : (channel : ℕ) → IsOtherChannel jobs channel → reading found channel ≡ []

-- a queue with room for all that the jobs may send refuses none
abbrev pub RefusesNoneWithRoom : ℕ → List JobState → Settings → RunReport → Type 0
RefusesNoneWithRoom posts jobs s report = most_in_all posts jobs ≤ s.queue
    → AllByRecursion (λ part. part.refused ≡ []) report.channels

-- the sink took the file of a finished run
abbrev pub Ran : {S : Type 0} → (S → Option (List ℕ)) → ℕ → List JobState → List JobState → Settings → S → RunReport
    → S → Type 0
Ran taken posts given jobs s before report after = (bytes : List ℕ) × Appends (taken before) (taken after) bytes
    × IsRun posts given jobs s report bytes

-- the sink took the first bytes of the file of some items
abbrev pub TookPart : {S : Type 0} → (S → Option (List ℕ)) → Settings → List Item → ℕ → S → S → Type 0
TookPart taken s items count before after = Appends (taken before) (taken after)
    (take count (written_file (format_of s) s.prologue.items items))

-- A run whose sink failed: all items were taken and the report tells of them, with the packets that the sink took
-- whole. What it took is no longer than the file.
pub record IsCut {S : Type 0} (taken : S → Option (List ℕ)) (posts : ℕ) (given jobs : List JobState) (s : Settings)
    (before : S) (report : RunReport) (count : ℕ) (after : S) : Type 0 where
  pub items : List Item
  pub bytes : TookPart taken s items count before after
  pub within : count ≤ length (written_file (format_of s) s.prologue.items items)
  pub parts : ArePairs (IsPartOf posts given s items) jobs report.channels
  pub others : (channel : ℕ) → IsOtherChannel jobs channel → part_of channel items ≡ []
  pub packets : report.packets ≡ whole_packets (count - length s.prologue.items) (closed_packets (format_of s) items)

-- U2: a setting is out of its range, or there are not 1 to 32 jobs; the sink is as it was
pub record LeavesSettings {S : Type 0} (jobs : List JobState) (s : Settings) (before sink : S) : Type 0 where
  pub untouched : sink ≡ before
  pub out : ¬ AreSettingsInRange jobs s

-- U1: where the ranges are kept, a channel stands twice; the sink is as it was
pub record LeavesTwice {S : Type 0} (jobs : List JobState) (s : Settings) (before sink : S) : Type 0 where
  pub untouched : sink ≡ before
  pub ranges : AreSettingsInRange jobs s
  pub twice : ¬ AreDistinct (channels_of jobs)

-- U5: where the ranges are kept and no channel stands twice, the prologue is none; the sink is as it was
pub record LeavesPrologue {S : Type 0} (jobs : List JobState) (s : Settings) (before sink : S) : Type 0 where
  pub untouched : sink ≡ before
  pub ranges : AreSettingsInRange jobs s
  pub distinct : AreDistinct (channels_of jobs)
  pub no_prologue : ¬ IsPrologue s.prologue.items

-- U3: the jobs and settings are lawful; the sink took the first bytes of the file of some items
pub record LeavesMemory {S : Type 0} (taken : S → Option (List ℕ)) (jobs : List JobState) (s : Settings)
    (before sink : S) : Type 0 where
  pub lawful : AreLawful jobs s
  pub items : List Item
  pub count : ℕ
  pub part : TookPart taken s items count before sink

-- U4: the jobs and settings are lawful, and the sink failed in this run
pub record LeavesSink {S : Type 0} (taken : S → Option (List ℕ)) (failures : S → ℕ) (jobs : List JobState)
    (s : Settings) (before sink : S) (report : RunReport) (count : ℕ) : Type 0 where
  pub lawful : AreLawful jobs s
  pub failed : failures before < failures sink
  pub cut : IsCut taken 0 jobs jobs s before report count sink

-- What a refusal says and leaves: U2, U1 and U5 put nothing into the sink; U3 and U4 come only where none of these does
-- and leave a part of a recording there, and U4 stands only where the sink failed.
abbrev pub LeavesRunInSink : {S : Type 0} → (S → Option (List ℕ)) → (S → ℕ) → List JobState → Settings → S
    → RunError S → Type 0
LeavesRunInSink taken failures jobs s before (fault.Settings sink) = LeavesSettings jobs s before sink
LeavesRunInSink taken failures jobs s before (fault.ChannelTwice sink) = LeavesTwice jobs s before sink
LeavesRunInSink taken failures jobs s before (fault.Prologue sink) = LeavesPrologue jobs s before sink
LeavesRunInSink taken failures jobs s before (fault.Memory sink) = LeavesMemory taken jobs s before sink
LeavesRunInSink taken failures jobs s before (fault.Sink sink report count) =
    LeavesSink taken failures jobs s before sink report count

-- What a run answers, in one statement: where it ends well its jobs and settings were lawful, the sink took the file of
-- a finished run, and a queue with room for all refused none; else this is what the refusal leaves.
pub record RanOrLeft {S : Type 0} (taken : S → Option (List ℕ)) (failures : S → ℕ) (jobs : List JobState) (s : Settings)
    (before : S) (answer : Result (RunReport × S) (RunError S)) : Type 0 where
  pub lawful : OnOk answer (AreLawful jobs s)
  pub ran : IfOk answer (λ r. Ran taken 0 jobs jobs s before r.0 r.1)
  pub room : IfOk answer (λ r. RefusesNoneWithRoom 0 jobs s r.0)
  pub refused : IfErr answer (LeavesRunInSink taken failures jobs s before)
