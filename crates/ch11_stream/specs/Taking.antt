-- The packet that begins the bytes to come.
use Rattle.std.specs.Prelude.{◌≡◌, ℕ, ◌+◌, ◌<◌, ◌≤◌, ◌^◌, List, length, take, drop}
use Rattle.std.specs.Prelude.{if◌then◌else◌, Option, None, Some, Result, Ok, Err}
use Rattle.std.specs.Io.KnownBytes.{IsAtEnd, Keeps, prepend_known}
use Rattle.ch11_header.specs.declared.header.Header.{Header}
use Rattle.ch11_header.specs.HeaderReading.{body_start, header_in}
use Rattle.ch11_reader.specs.declared.packet.Checked.{Checked}
use Rattle.ch11_reader.specs.Recording.{located, packet_messages, packet_at}
use Rattle.ch11_stream.specs.declared.fault.StreamFault.{StreamFault}
use Rattle.ch11_stream.specs.declared.fault.StreamFault.TheVariants as faults
use Rattle.ch11_stream.specs.Holding.{is_kept}

-- the fault is that of the packet that begins the bytes to come, which stand at an offset, where they are known; want
-- of memory and a reader that failed may come with any bytes
abbrev pub IsFaultAt : ℕ → Option (List ℕ) → StreamFault → Type 0
IsFaultAt offset coming (faults.Refused r) = (bytes : List ℕ) → coming ≡ Some bytes
    → (0 < length bytes) × (located offset (packet_at bytes) ≡ Err r)
IsFaultAt offset coming faults.Memory = Unit {0}
IsFaultAt offset coming faults.Device = Unit {0}

-- a lawful header begins the bytes to come
pub record IsNextHeader (coming : Option (List ℕ)) (h : Header) : Type 0 where
  pub long : 24 ≤ h.packet_length
  pub room : body_start h + h.data_length ≤ h.packet_length
  pub known : (bytes : List ℕ) → coming ≡ Some bytes → header_in bytes ≡ Ok h

-- what looking for a header comes to
abbrev pub Heads : Result (Option Header) StreamFault → ℕ → Option (List ℕ) → Option (List ℕ) → Type 0
Heads (Ok (Some h)) offset coming comes = IsNextHeader comes h × Keeps coming comes
Heads (Ok None) offset coming comes = IsAtEnd coming × IsAtEnd comes
Heads (Err e) offset coming comes = IsFaultAt offset coming e

-- how many of the bytes that are ready are still the packet's: all of one that is kept, none of another
abbrev pub held : Header → ℕ
held h = if is_kept h then h.packet_length else 0

-- a packet was taken: the bytes of one that is kept are ready, and those of another were passed
pub record IsTaken (coming left : Option (List ℕ)) (ready : List ℕ) (c : Checked) : Type 0 where
  pub count : c.count ≡ length (packet_messages c.header ready)
  pub few : c.count ≤ c.header.packet_length
  pub whole : held c.header ≤ length ready
  pub room : body_start c.header + c.header.data_length ≤ c.header.packet_length
  pub packet : (bytes : List ℕ) → coming ≡ Some bytes → packet_at bytes ≡ Ok c.header
  pub messages : (bytes : List ℕ) → coming ≡ Some bytes
      → packet_messages c.header ready ≡ packet_messages c.header bytes
  pub kept : (bytes : List ℕ) → coming ≡ Some bytes → take (held c.header) ready ≡ take (held c.header) bytes
  pub behind : (bytes : List ℕ) → coming ≡ Some bytes
      → prepend_known (drop (held c.header) ready) left ≡ Some (drop c.header.packet_length bytes)

abbrev pub TakesPacket : Result Checked StreamFault → ℕ → Option (List ℕ) → Option (List ℕ) → List ℕ → Type 0
TakesPacket (Ok c) offset coming left ready = IsTaken coming left ready c
TakesPacket (Err e) offset coming left ready = IsFaultAt offset coming e

-- what taking the next packet comes to
abbrev pub Nexts : Result (Option Checked) StreamFault → ℕ → Option (List ℕ) → Option (List ℕ) → List ℕ → Type 0
Nexts (Ok (Some c)) offset coming left ready = IsTaken coming left ready c × (offset + c.header.packet_length < 2 ^ 64)
Nexts (Ok None) offset coming left ready = IsAtEnd coming × IsAtEnd (prepend_known ready left)
Nexts (Err e) offset coming left ready = IsFaultAt offset coming e
