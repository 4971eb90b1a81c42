-- The messages of a channel: as a recording has them, and as reading what a job records gives them (own choice).
use Rattle.std.specs.Prelude.{ℕ, ◌==◌, Bool, if◌then◌else◌, List, [], ◌∷◌, ◌++◌, map}
use Rattle.ch11_f1.specs.declared.Record.{Record}
use Rattle.ch11_f1.specs.Again.{as_message}
use Rattle.ch11_f1.specs.BodyReading.{Message}
use Rattle.ch11_layout.specs.Stamps.{Recorded, counted, kind_of, recorded}
use Rattle.ch11_layout.specs.declared.stamps.StampKind.{StampKind}
use Rattle.ch11_reader.specs.Recording.{Found}
use Rattle.job_file.specs.Meaning.{records}
use Rattle.job_file.specs.Spelled.{ChannelJob}

-- those of a packet, where it is of the channel
abbrev pub messages_if : Bool → StampKind → List Message → List Recorded
messages_if own kind ms = if own then map (recorded kind) ms else []

abbrev pub messages_of : ℕ → Found → List Recorded
messages_of channel p = messages_if (p.header.channel == channel) (kind_of p.header) p.messages

-- those of a recording, in the order of the file
abbrev pub messages_in : ℕ → List Found → List Recorded
messages_in channel [] = []
messages_in channel (p ∷ ps) = messages_of channel p ++ messages_in channel ps

-- a record, as it is read again from a recording of the bench
abbrev pub read_again : Record → Recorded
read_again r = counted (as_message r)

-- those that reading the records of a job gives, under its own actions
abbrev pub run_of : ChannelJob → List Recorded
run_of job = map read_again (records job job.actions)
