-- A recording that is cut from another (own choice; IRIG 106-17 Chapter 11, packet header; MIL-STD-1553 bus data
-- packets, Format 1).
use Rattle.std.specs.Prelude.{ℕ, ◌+◌, ◌-◌, ◌%◌, ◌^◌, Bool, bit_or, if◌then◌else◌, List, [], ◌∷◌, ◌++◌, length, drop}
use Rattle.std.specs.Prelude.{replicate, slice_index, slice_range}
use Rattle.byteorder.specs.Endian.{little_bytes}
use Rattle.ch11_f1.specs.BodyReading.{Message}
use Rattle.ch11_header.specs.declared.header.Header.{Header}
use Rattle.ch11_header.specs.Flags.{overflow}
use Rattle.ch11_header.specs.HeaderBytes.{header_bytes}
use Rattle.ch11_header.specs.HeaderReading.{body_start}
use Rattle.ch11_layout.specs.Stamps.{kind_of}
use Rattle.ch11_layout.specs.declared.stamps.StampKind.{StampKind}
use Rattle.ch11_layout.specs.declared.stamps.StampKind.TheVariants.{Counter, TimeOfDay, Unknown}
use Rattle.ch11_reader.specs.Recording.{Found}
use Rattle.bench_complete.specs.Pieces.{Piece, bytes_of}
use Rattle.bench_complete.specs.SetupRecord.{filler_for}
use Rattle.bench_select.specs.declared.selection.Selection.{Selection}
use Rattle.bench_cut.specs.Parts.{Part, goes_over, loses, parts_in}
use Rattle.bench_cut.specs.Numbers.{is_owed, number_behind}

-- ---- messages

-- how many bytes a message takes in a body: its intra-packet header and its bus words
abbrev pub size_of : Message → ℕ
size_of m = 14 + length m.bytes

-- these: the time stamp, the block status word, the gap times word, the length of the bus words, and these
unfoldable pub head_of : Message → List ℕ
head_of m =
    little_bytes 8 m.stamp
    ++ (little_bytes 2 m.block ++ (little_bytes 2 m.gaps ++ little_bytes 2 (length m.bytes)))

abbrev pub bytes_of_message : Message → List ℕ
bytes_of_message m = head_of m ++ m.bytes

abbrev pub bytes_of_messages : List Message → List ℕ
bytes_of_messages [] = []
bytes_of_messages (m ∷ ms) = bytes_of_message m ++ bytes_of_messages ms

-- those of one that is chosen
abbrev pub bytes_if : Bool → Message → List ℕ
bytes_if chosen m = if chosen then bytes_of_message m else []

abbrev pub sizes_of : List Message → ℕ
sizes_of [] = 0
sizes_of (m ∷ ms) = size_of m + sizes_of ms

abbrev pub one : ℕ → List ℕ
one byte = byte ∷ []

-- ---- a packet that loses messages

-- the stamp of the first of its messages, 0 where there is none
abbrev pub first_stamp : List Message → ℕ
first_stamp [] = 0
first_stamp (m ∷ ms) = m.stamp

-- its counter is the stamp of its first message, 48 bits of it; where stamps are times of day it stays
abbrev pub counter_by : StampKind → ℕ → List Message → ℕ
counter_by Counter counter ms = first_stamp ms % 2 ^ 48
counter_by TimeOfDay counter ms = counter
counter_by Unknown counter ms = first_stamp ms % 2 ^ 48

-- its header, where it has these messages: there is no data checksum (flag bits 1 and 0)
abbrev pub header_with : Header → List Message → Header
header_with h ms = record h {
  packet_length = body_start h + (4 + sizes_of ms) + filler_for (4 + sizes_of ms);
  data_length = 4 + sizes_of ms;
  flags = h.flags - h.flags % 4;
  counter = counter_by (kind_of h) h.counter ms;
}

-- what stands in front of its messages: the secondary header, and the first word of the body, whose upper byte stays
-- and whose other bits count messages
abbrev pub front_with : Header → List ℕ → ℕ → List ℕ
front_with h bytes count =
    slice_range bytes 24 (body_start h) ++ (little_bytes 3 count ++ one (slice_index bytes (body_start h + 3)))

abbrev pub filler : ℕ → List ℕ
filler count = replicate count 0

-- what stands behind the header: that, the messages, and filler
abbrev pub body_with : Header → List ℕ → List Message → List ℕ
body_with h bytes ms =
    front_with h bytes (length ms) ++ (bytes_of_messages ms ++ filler (filler_for (4 + sizes_of ms)))

-- ---- all packets

-- the overflow flag, where a packet that was left out had it
abbrev pub flags_with : Bool → ℕ → ℕ
flags_with owed flags = if owed then bit_or flags overflow else flags

abbrev pub kept_header : Part → Header
kept_header p = if loses p then header_with p.header p.chosen else p.header

abbrev pub header_behind : List Part → Part → Header
header_behind earlier p = record (kept_header p) {
  sequence = number_behind earlier p;
  flags = flags_with (is_owed p.header.channel earlier) (kept_header p).flags;
}

-- what stands behind the header: of a packet that loses none all of it
abbrev pub kept_rest : Part → List ℕ
kept_rest p = if loses p then body_with p.header p.bytes p.chosen else drop 24 p.bytes

-- the packet as it goes over, behind earlier ones
abbrev pub piece_behind : List Part → Part → Piece
piece_behind earlier p = record {
  header = header_behind earlier p;
  bytes = header_bytes (header_behind earlier p) ++ kept_rest p;
}

abbrev pub pieces_behind : List Part → List Part → List Piece
pieces_behind earlier [] = []
pieces_behind earlier (p ∷ ps) =
    if goes_over p then piece_behind earlier p ∷ pieces_behind (p ∷ earlier) ps else pieces_behind (p ∷ earlier) ps

-- the packets of a recording that is cut from a file
abbrev pub cut_pieces : Selection → List ℕ → List Found → List Piece
cut_pieces s file ps = pieces_behind [] (parts_in s file ps)

-- its bytes
abbrev pub cut_bytes : Selection → List ℕ → List Found → List ℕ
cut_bytes s file ps = bytes_of (cut_pieces s file ps)
