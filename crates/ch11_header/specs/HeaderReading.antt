-- What bytes are read as a header, and which are refused (IRIG 106-17 Chapter 11, packet header).
use Rattle.std.specs.Prelude.{ℕ, ◌+◌, ◌%◌, ◌==◌, Bool, not, ◌&&◌, nat_lt, nat_le, if◌then◌else◌, List, length}
use Rattle.std.specs.Prelude.{slice_index, Result, Ok, Err}
use Rattle.ch11_header.specs.declared.header.Header.{Header}
use Rattle.ch11_header.specs.declared.error.HeaderError.{HeaderError}
use Rattle.ch11_header.specs.declared.error.HeaderError.TheVariants.{Short, Sync, Checksum, PacketLength, DataLength}
use Rattle.ch11_header.specs.HeaderBytes.{number_at, header_sum}

-- bit 7 of the flags, the highest: a secondary header of twelve bytes follows the header
abbrev pub has_secondary : ℕ → Bool
has_secondary flags = nat_le 128 flags

-- where the body begins in the packet
abbrev pub body_start : Header → ℕ
body_start h = if has_secondary h.flags then 36 else 24

-- the packet has room for its header, and its length is a multiple of four
abbrev pub is_packet_length : ℕ → Bool
is_packet_length size = nat_le 24 size && size % 4 == 0

-- the packet has room for its headers and its body
abbrev pub has_room : Header → Bool
has_room h = nat_le (body_start h + h.data_length) h.packet_length

-- the header, or what is wrong with its lengths
unfoldable pub with_lawful_lengths : Header → Result Header HeaderError
with_lawful_lengths h =
    if not (is_packet_length h.packet_length) then Err PacketLength
    else if not (has_room h) then Err DataLength
    else Ok h

-- what the fields of 24 bytes say
unfoldable pub fields_of : List ℕ → Header
fields_of bytes = record {
  channel = number_at 2 2 bytes;
  packet_length = number_at 4 4 bytes;
  data_length = number_at 8 4 bytes;
  version = slice_index bytes 12;
  sequence = slice_index bytes 13;
  flags = slice_index bytes 14;
  kind = slice_index bytes 15;
  counter = number_at 16 6 bytes;
}

-- the header at the front of the bytes, or the first refusal
unfoldable pub header_in : List ℕ → Result Header HeaderError
header_in bytes =
    if nat_lt (length bytes) 24 then Err Short
    else if not (number_at 0 2 bytes == 0xEB25) then Err Sync
    else if not (number_at 22 2 bytes == header_sum bytes) then Err Checksum
    else with_lawful_lengths (fields_of bytes)
