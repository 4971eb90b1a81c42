-- What begins the bytes to come, where that may be no packet, and how many bytes stand in front of the next packet.
use Rattle.std.specs.Prelude.{◌≡◌, ℕ, ◌+◌, ◌<◌, ◌≤◌, List, [], length, drop, Option, Some, Ok, Err}
use Rattle.std.specs.Io.KnownBytes.{IsAtEnd}
use Rattle.ch11_header.specs.HeaderReading.{body_start}
use Rattle.ch11_reader.specs.declared.error.PacketFault.{PacketFault}
use Rattle.ch11_reader.specs.declared.packet.Checked.{Checked}
use Rattle.ch11_reader.specs.Recording.{packet_messages, packet_at}
use Rattle.ch11_reader.specs.Skipping.{bytes_before}
use Rattle.ch11_stream.specs.declared.looking.Coming.{Coming}
use Rattle.ch11_stream.specs.declared.looking.Coming.TheVariants as fronts

-- a packet without a fault begins the bytes that are ready, and ends in them
pub record IsSoundReady (ready : List ℕ) (c : Checked) : Type 0 where
  pub packet : packet_at ready ≡ Ok c.header
  pub count : c.count ≡ length (packet_messages c.header ready)
  pub few : c.count ≤ c.header.packet_length
  pub whole : c.header.packet_length ≤ length ready
  pub room : body_start c.header + c.header.data_length ≤ c.header.packet_length

-- some bytes are to come, and no packet without a fault begins them
pub record IsFaulty (coming : Option (List ℕ)) (ready : List ℕ) (f : PacketFault) : Type 0 where
  pub some : 0 < length ready
  pub known : (bytes : List ℕ) → coming ≡ Some bytes → packet_at bytes ≡ Err f

-- what begins the bytes to come, which stay, and some of which are ready
abbrev pub Begins : Coming → Option (List ℕ) → Option (List ℕ) → List ℕ → Type 0
Begins fronts.End coming comes ready = IsAtEnd coming × IsAtEnd comes × (ready ≡ [])
Begins (fronts.Sound c) coming comes ready = IsSoundReady ready c
Begins (fronts.Faulty f) coming comes ready = IsFaulty coming ready f

-- the first so many bytes were passed, at none of which a packet without a fault begins
pub record IsPastOf (count : ℕ) (bytes : List ℕ) (comes : Option (List ℕ)) : Type 0 where
  pub within : count ≤ length bytes
  pub left : comes ≡ Some (drop count bytes)
  pub faulty : bytes_before bytes ≡ count + bytes_before (drop count bytes)

abbrev pub IsPast : ℕ → Option (List ℕ) → Option (List ℕ) → Type 0
IsPast count coming comes = (bytes : List ℕ) → coming ≡ Some bytes → IsPastOf count bytes comes

-- a packet without a fault begins the bytes to come, or there are none
abbrev pub BeginsSound : Option (List ℕ) → Type 0
BeginsSound coming = (bytes : List ℕ) → coming ≡ Some bytes → bytes_before bytes ≡ 0

-- where no packet without a fault begins the bytes to come, all in front of the next one were passed
abbrev pub IsSkipped : ℕ → Option (List ℕ) → Option (List ℕ) → Type 0
IsSkipped count coming comes = (bytes : List ℕ) (f : PacketFault) → coming ≡ Some bytes → packet_at bytes ≡ Err f
    → (count ≡ bytes_before bytes) × (comes ≡ Some (drop count bytes))
