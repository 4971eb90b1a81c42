-- The definitions at worked headers: one of a packet of 52 bytes with a message of five words, and one
-- of a setup record.
use Rattle.std.specs.Prelude.{◌≡◌, ℕ, List, [], ◌∷◌, Ok, Err, take, refl}
use Rattle.ch11_header.specs.declared.header.Header.{Header}
use Rattle.ch11_header.specs.declared.error.HeaderError.TheVariants.{Short}
use Rattle.ch11_header.specs.HeaderBytes.{word_sum, header_sum, summed_bytes, header_bytes}
use Rattle.ch11_header.specs.HeaderReading.{with_lawful_lengths, fields_of, header_in}

abbrev message_header : Header
message_header = record {
  channel = 1;
  packet_length = 52;
  data_length = 28;
  version = 6;
  sequence = 0;
  flags = 0;
  kind = 25;
  counter = 0;
}

abbrev message_bytes : List ℕ
message_bytes =
    0x25 ∷ 0xEB ∷ 1 ∷ 0 ∷ 0x34 ∷ 0 ∷ 0 ∷ 0 ∷ 0x1C ∷ 0 ∷ 0 ∷ 0 ∷ 6 ∷ 0 ∷ 0 ∷ 0x19
    ∷ 0 ∷ 0 ∷ 0 ∷ 0 ∷ 0 ∷ 0 ∷ 0x7C ∷ 4 ∷ []

abbrev setup_header : Header
setup_header = record {
  channel = 0;
  packet_length = 32;
  data_length = 6;
  version = 6;
  sequence = 0;
  flags = 0;
  kind = 1;
  counter = 0;
}

abbrev setup_bytes : List ℕ
setup_bytes =
    0x25 ∷ 0xEB ∷ 0 ∷ 0 ∷ 0x20 ∷ 0 ∷ 0 ∷ 0 ∷ 6 ∷ 0 ∷ 0 ∷ 0 ∷ 6 ∷ 0 ∷ 0 ∷ 1
    ∷ 0 ∷ 0 ∷ 0 ∷ 0 ∷ 0 ∷ 0 ∷ 0x51 ∷ 0xEC ∷ []

message_is_written : header_bytes message_header ≡ message_bytes
unfolding word_sum header_sum summed_bytes header_bytes
message_is_written = refl

message_is_read : header_in message_bytes ≡ Ok message_header
unfolding word_sum header_sum with_lawful_lengths fields_of header_in
message_is_read = refl

setup_is_written : header_bytes setup_header ≡ setup_bytes
unfolding word_sum header_sum summed_bytes header_bytes
setup_is_written = refl

setup_is_read : header_in setup_bytes ≡ Ok setup_header
unfolding word_sum header_sum with_lawful_lengths fields_of header_in
setup_is_read = refl

cut_is_short : header_in (take 20 message_bytes) ≡ Err Short
unfolding header_in
cut_is_short = refl
