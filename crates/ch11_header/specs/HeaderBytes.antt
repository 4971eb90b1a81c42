-- The bytes of a packet's header (IRIG 106-17 Chapter 11, packet header). All numbers are little-endian.
use Rattle.std.specs.Prelude.{ℕ, zero, suc, ◌+◌, ◌%◌, ◌<◌, ◌^◌, List, ◌∷◌, ◌++◌, drop}
use Rattle.byteorder.specs.Endian.{little_bytes, little_number}
use Rattle.ch11_header.specs.declared.header.Header.{Header}

-- the number in so many bytes from a place on
abbrev pub number_at : ℕ → ℕ → List ℕ → ℕ
number_at place size bytes = little_number size (drop place bytes)

-- the sum of the first so many 16-bit words
unfoldable pub word_sum : ℕ → List ℕ → ℕ
word_sum zero bytes = 0
word_sum (suc count) bytes = number_at 0 2 bytes + word_sum count (drop 2 bytes)

-- the header checksum: the 16-bit sum of the eleven words before it
unfoldable pub header_sum : List ℕ → ℕ
header_sum bytes = word_sum 11 bytes % 65536

-- the eleven words before the checksum: sync pattern, channel, packet length, data length, data type
-- version, sequence number, packet flags, data type, relative time counter
unfoldable pub summed_bytes : Header → List ℕ
summed_bytes h =
    little_bytes 2 0xEB25
    ++ (little_bytes 2 h.channel
    ++ (little_bytes 4 h.packet_length
    ++ (little_bytes 4 h.data_length
    ++ (h.version ∷ h.sequence ∷ h.flags ∷ h.kind ∷ little_bytes 6 h.counter))))

-- the 24 bytes of a header
unfoldable pub header_bytes : Header → List ℕ
header_bytes h = summed_bytes h ++ little_bytes 2 (header_sum (summed_bytes h))

-- each number fits its bytes
pub record Fits (h : Header) : Type 0 where
  pub channel : h.channel < 2 ^ 16
  pub packet_length : h.packet_length < 2 ^ 32
  pub data_length : h.data_length < 2 ^ 32
  pub version : h.version < 2 ^ 8
  pub sequence : h.sequence < 2 ^ 8
  pub flags : h.flags < 2 ^ 8
  pub kind : h.kind < 2 ^ 8
  pub counter : h.counter < 2 ^ 48
