-- The recording of one channel (IRIG 106-17 Chapter 11): its records, numbered from 1, and then its end mark.
use Rattle.std.specs.Prelude.{◌≡◌, ℕ, List, [], map, Ok}
use Rattle.ch11_f1.specs.declared.Record.{Record}
use Rattle.ch11_f1.specs.Again.{as_message}
use Rattle.ch11_builder.specs.Packet.{Numbered}
use Rattle.ch11_reader.specs.Recording.{Found, packets_in}
use Rattle.ch11_reader.specs.Contents.{reading}
use Rattle.ch11_recording.specs.declared.item.Item.{Item}
use Rattle.ch11_recording.specs.declared.item.Item.TheVariants as item
use Rattle.ch11_recording.specs.Items.{numbered_from, to_the_end}
use Rattle.ch11_recording.specs.WrittenFile.{Format, written_file}

abbrev pub message_of : ℕ → Numbered → Item
message_of channel n = item.Message channel n.number n.message

-- the items of a channel's records, before it has ended
abbrev pub items_of : ℕ → List Record → List Item
items_of channel records = map (message_of channel) (numbered_from 1 records)

abbrev pub format_of : ℕ → ℕ → Format
format_of version limit = record { version = version; limit = limit }

-- the bytes of the channel's recording
abbrev pub channel_file : ℕ → ℕ → ℕ → List Record → List ℕ
channel_file channel version limit records = written_file (format_of version limit) []
    (to_the_end channel (numbered_from 1 records))

-- the bytes can be read, and the channel's messages in them are these records, in order and once
abbrev pub IsReadAs : ℕ → List Record → List ℕ → Type 0
IsReadAs channel records bytes = (ps : List Found) × (packets_in bytes ≡ Ok ps)
    × (reading ps channel ≡ map as_message records)
