-- A reading of packets one after the other, each with all its bytes, of whatever type.
use Rattle.std.specs.Prelude.{◌≡◌, ℕ, ◌+◌, ◌<◌, ◌^◌, List, [], length, take, Option, None, Some, Result, Ok, Err}
use Rattle.std.specs.Io.KnownBytes.{IsAtEnd, prepend_known}
use Rattle.ch11_reader.specs.declared.packet.Checked.{Checked}
use Rattle.ch11_reader.specs.declared.packet.Packet.{Packet}
use Rattle.ch11_reader.specs.Recording.{packet_at, packet_messages}
use Rattle.ch11_stream.specs.declared.fault.StreamFault.{StreamFault}
use Rattle.ch11_stream.specs.Reading.{Reading}
use Rattle.ch11_stream.specs.Stretches.{IsSoundAt}
use Rattle.ch11_stream.specs.Taking.{IsFaultAt}

-- a reading, and all bytes of the packet that was read last
pub record WholeReading : Type 0 where
  pub reading : Reading
  pub whole : List ℕ

-- ---- what is taken

-- a packet was taken, all bytes of which are ready: where the bytes to come were known, they begin with these
pub record IsWholeAt (coming left : Option (List ℕ)) (ready : List ℕ) (c : Checked) : Type 0 where
  pub sound : IsSoundAt coming left ready c
  pub packet : packet_at ready ≡ Ok c.header
  pub bytes : (bytes : List ℕ) → coming ≡ Some bytes
      → take c.header.packet_length ready ≡ take c.header.packet_length bytes

-- what taking the next packet, whole, comes to
abbrev pub TakesWhole : Result (Option Checked) StreamFault → ℕ → Option (List ℕ) → Option (List ℕ) → List ℕ → Type 0
TakesWhole (Ok (Some c)) offset coming left ready =
    IsWholeAt coming left ready c × (offset + c.header.packet_length < 2 ^ 64)
TakesWhole (Ok None) offset coming left ready = IsAtEnd coming × IsAtEnd (prepend_known ready left)
TakesWhole (Err e) offset coming left ready = IsFaultAt offset coming e

-- ---- packets

-- all bytes of the packet that was read are there, and its messages are theirs; where the bytes to come were known,
-- they began with these
pub record IsWhole (before now : WholeReading) (p : Packet) : Type 0 where
  pub size : length now.whole ≡ p.header.packet_length
  pub packet : packet_at now.whole ≡ Ok p.header
  pub messages : now.reading.given ≡ packet_messages p.header now.whole
  pub bytes : (bytes : List ℕ) → before.reading.left ≡ Some bytes → now.whole ≡ take p.header.packet_length bytes

-- what an attempt to read a packet, whole, comes to
abbrev pub HasWhole : Result (Option Packet) StreamFault → WholeReading → WholeReading → Type 0
HasWhole (Ok (Some p)) before now = IsWhole before now p
HasWhole (Ok None) before now = now.whole ≡ []
HasWhole (Err e) before now = now.whole ≡ []
