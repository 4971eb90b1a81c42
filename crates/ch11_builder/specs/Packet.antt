-- The bytes of a packet of MIL-STD-1553 messages (IRIG 106-17 Chapter 11, packet header and MIL-STD-1553 bus data
-- packets, Format 1). It has no secondary header and no data checksum.
use Rattle.std.specs.Prelude.{ℕ, ◌+◌, ◌*◌, ◌-◌, ◌/◌, ◌%◌, Bool, false, not, ◌||◌, ◌==◌, if◌then◌else◌, List, [], ◌∷◌}
use Rattle.std.specs.Prelude.{◌++◌, length, take, map}
use Rattle.ch11_f1.specs.declared.Record.{Record}
use Rattle.ch11_header.specs.declared.header.Header.{Header}
use Rattle.ch11_header.specs.Flags.{overflow}
use Rattle.ch11_header.specs.HeaderBytes.{header_bytes}
use Rattle.ch11_header.specs.Kinds.{bus_messages}
use Rattle.ch11_f1.specs.BodyBytes.{words_of, body_bytes}

-- a recorded message, and its number in its channel: the first that was sent there has number 1
pub record Numbered : Type 0 where
  pub number : ℕ
  pub message : Record

abbrev pub messages_of : List Numbered → List Record
messages_of ns = map (λ n. n.message) ns

-- how many bytes the messages take in a body: 14 each, and two for each word
abbrev pub size_of : List Numbered → ℕ
size_of [] = 0
size_of (n ∷ ns) = 14 + 2 * length (words_of n.message) + size_of ns

-- the next multiple of four
abbrev pub padded : ℕ → ℕ
padded n = (n + 3) / 4 * 4

-- how long the packet of the records is: a header of 24 bytes, a channel-specific data word of four, and the messages
abbrev pub packet_length : List Numbered → ℕ
packet_length ns = padded (28 + size_of ns)

-- the stamp of the first record
abbrev pub first_stamp : List Numbered → ℕ
first_stamp [] = 0
first_stamp (n ∷ ns) = n.message.stamp

-- the number of the last record, or that of the record before them all
abbrev pub last_number : ℕ → List Numbered → ℕ
last_number before [] = before
last_number before (n ∷ ns) = last_number n.number ns

-- a record is missing: some number isn't one more than the number before it
abbrev pub has_gap : ℕ → List Numbered → Bool
has_gap before [] = false
has_gap before (n ∷ ns) = not (n.number == before + 1) || has_gap n.number ns

-- what the packets of a channel have in common: its number, the data type version, and the most bytes of a packet
pub record Channel : Type 0 where
  pub channel : ℕ
  pub version : ℕ
  pub limit : ℕ

-- The header of the packet of the records. `place` packets of the channel stand before it, and `before` is the number
-- of the last record in them, 0 where there is none. The flag overflow says that a record is missing.
abbrev pub header_of : Channel → ℕ → ℕ → List Numbered → Header
header_of c place before ns = record {
  channel = c.channel;
  packet_length = packet_length ns;
  data_length = 4 + size_of ns;
  version = c.version;
  sequence = place % 256;
  flags = if has_gap before ns then overflow else 0;
  kind = bus_messages;
  counter = first_stamp ns;
}

-- the bytes, and filler 00 up to a multiple of four
abbrev pub filled : List ℕ → List ℕ
filled bytes = bytes ++ take (padded (length bytes) - length bytes) (0 ∷ 0 ∷ 0 ∷ [])

-- the packet of the records
unfoldable pub packet : Channel → ℕ → ℕ → List Numbered → List ℕ
packet c place before ns = filled (header_bytes (header_of c place before ns) ++ body_bytes (messages_of ns))
