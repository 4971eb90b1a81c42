-- What is settled after each step: for each channel, what the file gives, what is written to no packet yet, and what
-- stands in the queue are together the messages made so far, in order and once, but for the refused.
use Rattle.std.specs.Prelude.{◌≡◌, ℕ, ◌<◌, ◌^◌, List, [], ◌++◌, map, take, Ok}
use Rattle.std.specs.List.{AllByRecursion}
use Rattle.ch11_f1.specs.Again.{as_message}
use Rattle.ch11_builder.specs.Packet.{Numbered, messages_of}
use Rattle.ch11_builder.specs.Recorded.{IsRecorded}
use Rattle.ch11_reader.specs.Recording.{Found, packets_in}
use Rattle.ch11_reader.specs.Contents.{reading}
use Rattle.ch11_recording.specs.Items.{records_in, numbered}
use Rattle.ch11_recording.specs.WrittenFile.{Format, held_in, written_file}
use Rattle.ch11_recording.specs.Recording.{AreDistinct}
use Rattle.ch11_recording.specs.Laws.{IsFormat, IsPrologue}
use Rattle.bench_core.specs.declared.step.Step.{Step}
use Rattle.bench_settings.specs.Kept.{kept_records}
use Rattle.bench_core.specs.Bench.{ChannelState, Bench, all_records, begun, after_steps}

-- the messages that a channel has made, but for the refused
abbrev pub kept_of : ChannelState → List Numbered
kept_of l = kept_records l.refused (take l.made (all_records l))

-- nothing is lost that is not listed, and nothing is doubled or out of order
abbrev pub IsSettled : Bench → ChannelState → Type 0
IsSettled b l = records_in l.channel (b.taken ++ b.queue) ≡ kept_of l

-- the recording of the taken items, read back, has the records of the closed packets; with those of the open packet and
-- of the queue they are the messages that the channel has made, but for the refused
abbrev pub ReadsBack : Format → List ℕ → Bench → Type 0
ReadsBack f prologue b =
    (ps : List Found) × (packets_in (written_file f prologue b.taken) ≡ Ok ps)
    × AllByRecursion (λ l. reading ps l.channel
    ++ map as_message (messages_of ((held_in f l.channel b.taken).records ++ records_in l.channel b.queue))
    ≡ map as_message (messages_of (kept_of l))) b.channels

-- a channel at the beginning: nothing was made
pub record IsFresh (l : ChannelState) : Type 0 where
  pub channel : l.channel < 2 ^ 16
  pub made : l.made ≡ 0
  pub refused : l.refused ≡ []

-- the messages that a channel has made are those of a bus monitor
abbrev pub HasRecorded : ChannelState → Type 0
HasRecorded l = AllByRecursion (λ r. IsRecorded (numbered 0 r)) (take l.made (all_records l))

-- After each list of steps, of a bench with any capacity.
abbrev pub SettledAfterEachStep : Type 0
SettledAfterEachStep =
    (channels : List ChannelState) (capacity : ℕ) (steps : List Step) → AllByRecursion IsFresh channels
    → AreDistinct (map (λ l. l.channel) channels)
    → AllByRecursion (IsSettled (after_steps steps (begun capacity channels)))
    (after_steps steps (begun capacity channels)).channels

abbrev pub ReadsBackAfterEachStep : Type 0
ReadsBackAfterEachStep =
    (channels : List ChannelState) (capacity : ℕ) (steps : List Step) (f : Format) (prologue : List ℕ)
    → AllByRecursion IsFresh channels → AreDistinct (map (λ l. l.channel) channels) → IsFormat f → IsPrologue prologue
    → AllByRecursion HasRecorded (after_steps steps (begun capacity channels)).channels
    → ReadsBack f prologue (after_steps steps (begun capacity channels))
