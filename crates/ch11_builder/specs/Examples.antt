-- The definitions at worked records.
use Rattle.std.specs.Prelude.{◌≡◌, ℕ, [], ◌∷◌, length, map, refl}
use Rattle.std.specs.List.{repeat}
use Rattle.ch11_header.specs.HeaderBytes.{header_bytes, summed_bytes, header_sum, word_sum}
use Rattle.ch11_f1.specs.BodyBytes.{record_bytes, head_bytes, body_bytes}
use Rattle.ch11_builder.specs.Packet.{Numbered, Channel, packet, packet_length, header_of}
use Rattle.ch11_builder.specs.Cutting.{cut, packets}

-- one message of five words, at tick 0
abbrev received : Numbered
received = record {
  number = 1;
  message = record
      { stamp = 0; block = 0; gaps = 0x50; words = record { items = 0x2823 ∷ 1 ∷ 2 ∷ 3 ∷ 0x2800 ∷ [] } };
}

abbrev channel_1 : Channel
channel_1 = record { channel = 1; version = 6; limit = 4096 }

one_message : packets channel_1 (received ∷ [])
    ≡ (0x25 ∷ 0xEB ∷ 1 ∷ 0 ∷ 0x34 ∷ 0 ∷ 0 ∷ 0 ∷ 0x1C ∷ 0 ∷ 0 ∷ 0 ∷ 6 ∷ 0 ∷ 0 ∷ 0x19
    ∷ 0 ∷ 0 ∷ 0 ∷ 0 ∷ 0 ∷ 0 ∷ 0x7C ∷ 4 ∷ 1 ∷ 0 ∷ 0 ∷ 0x40 ∷ 0 ∷ 0 ∷ 0 ∷ 0
    ∷ 0 ∷ 0 ∷ 0 ∷ 0 ∷ 0 ∷ 0 ∷ 0x50 ∷ 0 ∷ 0x0A ∷ 0 ∷ 0x23 ∷ 0x28 ∷ 1 ∷ 0 ∷ 2 ∷ 0
    ∷ 3 ∷ 0 ∷ 0 ∷ 0x28 ∷ []) ∷ []
unfolding packet header_bytes summed_bytes header_sum word_sum body_bytes record_bytes head_bytes
one_message = refl

-- a message of 36 words
abbrev long : ℕ → ℕ → Numbered
long number stamp = record {
  number = number;
  message = record { stamp = stamp; block = 0; gaps = 0; words = record { items = repeat 36 (7 ∷ []) } };
}

five_messages : map packet_length (cut 256
    (long 1 0 ∷ long 2 10000 ∷ long 3 20000 ∷ long 4 30000 ∷ long 5 40000 ∷ [])) ≡ 200 ∷ 200 ∷ 116 ∷ []
five_messages = refl

near : length (cut 256 (long 1 0 ∷ long 2 999999 ∷ [])) ≡ 1
near = refl

far : length (cut 256 (long 1 0 ∷ long 2 1000000 ∷ [])) ≡ 2
far = refl

-- the third record is missing, in the second packet
flags : map (λ h. h.flags) (header_of channel_1 0 0 (received ∷ [])
    ∷ header_of channel_1 1 1 (long 2 0 ∷ long 4 0 ∷ []) ∷ header_of channel_1 2 4 (long 5 0 ∷ []) ∷ [])
    ≡ 0 ∷ 0x10 ∷ 0 ∷ []
flags = refl
