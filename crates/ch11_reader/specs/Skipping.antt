-- What is read of a damaged recording (own choice): where a packet without a fault begins, it is read, and the reading
-- goes on behind it. Elsewhere all bytes up to the next place at which such a packet begins, or up to the end, are one
-- skip, with the first fault at its first byte.
use Rattle.std.specs.Prelude.{◌≡◌, ℕ, zero, suc, ◌+◌, List, [], ◌∷◌, length, drop, Result, Ok, Err}
use Rattle.ch11_header.specs.declared.header.Header.{Header}
use Rattle.ch11_reader.specs.declared.error.PacketFault.{PacketFault}
use Rattle.ch11_reader.specs.declared.skip.Skip.{Skip}
use Rattle.ch11_reader.specs.Recording.{Found, packet_messages, packet_at, packets_in}

-- a stretch of a file: a packet that is read, or bytes that are skipped
pub data Stretch : Type 0 where
  Read : Found → Stretch
  Skipped : Skip → Stretch

abbrev pub none_or_behind : Result Header PacketFault → ℕ → ℕ
none_or_behind (Ok h) behind = 0
none_or_behind (Err f) behind = suc behind

-- how many bytes stand before the next packet without a fault; all of them where there is none
abbrev pub bytes_before : List ℕ → ℕ
bytes_before [] = 0
bytes_before (b ∷ bs) = none_or_behind (packet_at (b ∷ bs)) (bytes_before bs)

-- the packet that begins these bytes, which stand at an offset
abbrev pub read_at : ℕ → Header → List ℕ → Stretch
read_at offset h bytes = Read (record { offset = offset; header = h; messages = packet_messages h bytes })

-- the bytes in front of the next packet; at the first of them there is a fault
abbrev pub skip_at : ℕ → PacketFault → List ℕ → Stretch
skip_at offset f bytes = Skipped (record { offset = offset; length = bytes_before bytes; fault = f })

-- the first stretch of bytes that stand at an offset, and how many bytes it has
abbrev pub first_stretch : ℕ → Result Header PacketFault → List ℕ → Stretch
first_stretch offset (Ok h) bytes = read_at offset h bytes
first_stretch offset (Err f) bytes = skip_at offset f bytes

abbrev pub first_size : Result Header PacketFault → List ℕ → ℕ
first_size (Ok h) bytes = h.packet_length
first_size (Err f) bytes = bytes_before bytes

-- the stretches of the bytes that stand at an offset, one after the other; the first number only bounds how many there
-- can be
unfoldable pub stretches_from : ℕ → ℕ → List ℕ → List Stretch
stretches_from zero offset bytes = []
stretches_from (suc most) offset [] = []
stretches_from (suc most) offset (b ∷ bs) =
    first_stretch offset (packet_at (b ∷ bs)) (b ∷ bs)
    ∷ stretches_from most (offset + first_size (packet_at (b ∷ bs)) (b ∷ bs))
    (drop (first_size (packet_at (b ∷ bs)) (b ∷ bs)) (b ∷ bs))

-- the stretches of a file, which has no more of them than bytes
abbrev pub stretches_in : List ℕ → List Stretch
stretches_in file = stretches_from (length file) 0 file

-- the packets among the stretches
abbrev pub packets_among : List Stretch → List Found
packets_among [] = []
packets_among (Read p ∷ others) = p ∷ packets_among others
packets_among (Skipped s ∷ others) = packets_among others

-- the skips among the stretches
abbrev pub skips_among : List Stretch → List Skip
skips_among [] = []
skips_among (Read p ∷ others) = skips_among others
skips_among (Skipped s ∷ others) = s ∷ skips_among others

-- the packets that are read of a file, damaged or not
abbrev pub packets_read : List ℕ → List Found
packets_read file = packets_among (stretches_in file)

-- the bytes of it that are skipped
abbrev pub skips_in : List ℕ → List Skip
skips_in file = skips_among (stretches_in file)

-- nothing of a recording that can be read is skipped
abbrev pub ReadableIsWhole : Type 0
ReadableIsWhole = (file : List ℕ) (ps : List Found) → packets_in file ≡ Ok ps → (packets_read file ≡ ps)
    × (skips_in file ≡ [])
