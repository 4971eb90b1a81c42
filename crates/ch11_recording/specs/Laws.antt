-- Laws of a recording: what it is read as, how it grows, and the packets that it is made of.
use Rattle.std.specs.Prelude.{◌≡◌, ℕ, ◌<◌, ◌≤◌, ◌^◌, false, List, [], ◌∷◌, ◌++◌, length, map, Ok}
use Rattle.std.specs.List.{AllByRecursion, concat}
use Rattle.ch11_f1.specs.Again.{as_message}
use Rattle.ch11_builder.specs.Packet.{Numbered, messages_of}
use Rattle.ch11_builder.specs.Held.{latest_number}
use Rattle.ch11_builder.specs.Recorded.{IsRecorded}
use Rattle.ch11_reader.specs.Recording.{Found, packets_in, holds_messages}
use Rattle.ch11_reader.specs.Contents.{reading}
use Rattle.ch11_recording.specs.declared.item.Item.{Item}
use Rattle.ch11_recording.specs.Items.{channel_of, record_in, records_in, part_of, to_the_end, last_number}
use Rattle.ch11_recording.specs.WrittenFile.{Format, held_in, closing, written_file, closed_by, closed_packets}
use Rattle.ch11_recording.specs.WrittenFile.{whole_packets, closed_records}

-- the version has the size of its field, and the limit is lawful
pub record IsFormat (f : Format) : Type 0 where
  pub version : f.version < 2 ^ 8
  pub low : 256 ≤ f.limit
  pub high : f.limit ≤ 524288

-- readable bytes, with no packet of MIL-STD-1553 messages
abbrev pub IsPrologue : List ℕ → Type 0
IsPrologue bytes = (ps : List Found) × (packets_in bytes ≡ Ok ps)
    × AllByRecursion (λ p. holds_messages p.header ≡ false) ps

-- its channel has the size of its field, and its record is one of a bus monitor
abbrev pub IsItem : Item → Type 0
IsItem x = (channel_of x < 2 ^ 16) × AllByRecursion IsRecorded (record_in x)

-- the file is readable, and the reading of each channel is the records of its closed packets
abbrev pub ReadsBack : Format → List ℕ → List Item → Type 0
ReadsBack f prologue items =
    (ps : List Found) × (packets_in (written_file f prologue items) ≡ Ok ps)
    × ((channel : ℕ) → reading ps channel ≡ map as_message (messages_of (closed_records f channel items)))

-- A recording is read again: for each channel the records of its closed packets, in order and once.
abbrev pub RecordingIsRead : Type 0
RecordingIsRead =
    (f : Format) (prologue : List ℕ) (items : List Item) → IsFormat f → IsPrologue prologue
    → AllByRecursion IsItem items
    → ReadsBack f prologue items

-- A channel's records are those of its closed packets, and then those of its open one.
abbrev pub RecordsAreKept : Type 0
RecordsAreKept =
    (f : Format) (channel : ℕ) (items : List Item)
    → closed_records f channel items ++ (held_in f channel items).records ≡ records_in channel items

-- Where a channel's items are records and then its end mark, all records are in closed packets.
abbrev pub EndedIsClosed : Type 0
EndedIsClosed =
    (f : Format) (channel : ℕ) (items : List Item) (ns : List Numbered) → part_of channel items ≡ to_the_end channel ns
    → closed_records f channel items ≡ ns

-- One more item.
abbrev pub FileGoesOn : Type 0
FileGoesOn =
    (f : Format) (prologue : List ℕ) (items : List Item) (x : Item)
    → written_file f prologue (items ++ x ∷ [])
    ≡ written_file f prologue items ++ closing (held_in f (channel_of x) items) x

-- The latest number that a channel holds is that of the channel's last record.
abbrev pub LatestIsLast : Type 0
LatestIsLast =
    (f : Format) (channel : ℕ) (items : List Item)
    → latest_number (held_in f channel items) ≡ last_number (records_in channel items)

-- A recording is its prologue, and then its packets.
abbrev pub FileIsPackets : Type 0
FileIsPackets =
    (f : Format) (prologue : List ℕ) (items : List Item)
    → written_file f prologue items ≡ prologue ++ concat (closed_packets f items)

-- Each packet has a byte at least.
abbrev pub PacketsHaveBytes : Type 0
PacketsHaveBytes = (f : Format) (items : List Item) → AllByRecursion (λ p. 0 < length p) (closed_packets f items)

-- Within the bytes of all packets each of them stands whole.
abbrev pub AllPacketsAreWhole : Type 0
AllPacketsAreWhole =
    (f : Format) (items : List Item)
    → whole_packets (length (concat (closed_packets f items))) (closed_packets f items)
    ≡ length (closed_packets f items)

-- One more item adds the packet that it closes.
abbrev pub PacketsGoOn : Type 0
PacketsGoOn =
    (f : Format) (items : List Item) (x : Item)
    → closed_packets f (items ++ x ∷ []) ≡ closed_packets f items ++ closed_by (held_in f (channel_of x) items) x
