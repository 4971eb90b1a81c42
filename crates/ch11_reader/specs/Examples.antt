-- The definitions at a worked file: a setup record of channel 0, and a packet of channel 1 with a message
-- behind a secondary header.
use Rattle.std.specs.Prelude.{◌≡◌, ℕ, false, List, [], ◌∷◌, take, slice_set, None, Some, Ok, Err, refl}
use Rattle.ch11_header.specs.HeaderBytes.{header_sum, word_sum}
use Rattle.ch11_header.specs.HeaderReading.{header_in, fields_of, with_lawful_lengths}
use Rattle.ch11_header.specs.declared.error.HeaderError.TheVariants.{Short, Sync}
use Rattle.ch11_f1.specs.BodyReading.{Message, messages_in, messages_at, message_at}
use Rattle.ch11_reader.specs.declared.error.PacketFault.TheVariants.{Header, End}
use Rattle.ch11_reader.specs.Recording.{Found, packets_in, packets_from, packet_at}
use Rattle.ch11_reader.specs.Contents.{reading, message_numbered}
use Rattle.ch11_reader.specs.Listing.{listing}

abbrev foreign : List ℕ
foreign =
    0x25 ∷ 0xEB ∷ 0 ∷ 0 ∷ 0x20 ∷ 0 ∷ 0 ∷ 0 ∷ 6 ∷ 0 ∷ 0 ∷ 0 ∷ 6 ∷ 0 ∷ 0 ∷ 1
    ∷ 0 ∷ 0 ∷ 0 ∷ 0 ∷ 0 ∷ 0 ∷ 0x51 ∷ 0xEC ∷ 0 ∷ 0 ∷ 0 ∷ 0 ∷ 0x41 ∷ 0x42 ∷ 0 ∷ 0
    ∷ 0x25 ∷ 0xEB ∷ 1 ∷ 0 ∷ 0x40 ∷ 0 ∷ 0 ∷ 0 ∷ 0x1C ∷ 0 ∷ 0 ∷ 0 ∷ 6 ∷ 0 ∷ 0x80 ∷ 0x19
    ∷ 0 ∷ 0 ∷ 0 ∷ 0 ∷ 0 ∷ 0 ∷ 8 ∷ 5 ∷ 0 ∷ 0 ∷ 0 ∷ 0 ∷ 0 ∷ 0 ∷ 0 ∷ 0
    ∷ 0 ∷ 0 ∷ 0 ∷ 0 ∷ 1 ∷ 0 ∷ 0 ∷ 0x40 ∷ 0 ∷ 0 ∷ 0 ∷ 0 ∷ 0 ∷ 0 ∷ 0 ∷ 0
    ∷ 0 ∷ 0 ∷ 0x50 ∷ 0 ∷ 0x0A ∷ 0 ∷ 0x23 ∷ 0x28 ∷ 1 ∷ 0 ∷ 2 ∷ 0 ∷ 3 ∷ 0 ∷ 0 ∷ 0x28 ∷ []

abbrev received : Message
received = record { stamp = 0; block = 0; gaps = 0x50; bytes = 0x23 ∷ 0x28 ∷ 1 ∷ 0 ∷ 2 ∷ 0 ∷ 3 ∷ 0 ∷ 0 ∷ 0x28 ∷ [] }

abbrev setup : Found
setup = record {
  offset = 0;
  header = record {
    channel = 0;
    packet_length = 32;
    data_length = 6;
    version = 6;
    sequence = 0;
    flags = 0;
    kind = 1;
    counter = 0;
  };
  messages = [];
}

abbrev heard : Found
heard = record {
  offset = 32;
  header = record {
    channel = 1;
    packet_length = 64;
    data_length = 28;
    version = 6;
    sequence = 0;
    flags = 128;
    kind = 25;
    counter = 0;
  };
  messages = received ∷ [];
}

file_is_read : packets_in foreign ≡ Ok (setup ∷ heard ∷ [])
unfolding packets_from packet_at header_in fields_of with_lawful_lengths header_sum word_sum messages_in messages_at
    message_at
file_is_read = refl

channel_is_read : reading (setup ∷ heard ∷ []) 1 ≡ received ∷ []
channel_is_read = refl

first_message : message_numbered (setup ∷ heard ∷ []) 1 ≡ Some (1, received)
first_message = refl

no_second_message : message_numbered (setup ∷ heard ∷ []) 2 ≡ None
no_second_message = refl

packets_are_listed : listing (setup ∷ heard ∷ [])
    ≡ record { offset = 0; header = setup.header; before = 0; count = 0; sequence_jump = false }
    ∷ record { offset = 32; header = heard.header; before = 0; count = 1; sequence_jump = false } ∷ []
packets_are_listed = refl

cut_in_the_header : packets_in (take 20 foreign) ≡ Err (record { offset = 0; fault = Header Short })
unfolding packets_from packet_at header_in
cut_in_the_header = refl

cut_in_the_body : packets_in (take 95 foreign) ≡ Err (record { offset = 32; fault = End })
unfolding packets_from packet_at header_in fields_of with_lawful_lengths header_sum word_sum
cut_in_the_body = refl

second_sync_damaged : packets_in (slice_set foreign 32 0) ≡ Err (record { offset = 32; fault = Header Sync })
unfolding packets_from packet_at header_in fields_of with_lawful_lengths header_sum word_sum messages_in messages_at
    message_at
second_sync_damaged = refl
