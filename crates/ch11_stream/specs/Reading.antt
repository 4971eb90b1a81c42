-- A reading of packets, one after the other (IRIG 106-17 Chapter 11: a recording is a sequence of packets).
use Rattle.std.specs.Prelude.{◌≡◌, ℕ, ◌+◌, ◌<◌, ◌^◌, List, [], ◌∷◌, drop, Option, None, Some, Result, Ok, Err, take}
use Rattle.std.specs.Io.KnownBytes.{IsAtEnd}
use Rattle.ch11_f1.specs.BodyReading.{Message}
use Rattle.ch11_reader.specs.declared.packet.Packet.{Packet}
use Rattle.ch11_reader.specs.Recording.{Found, packet_messages, packet_at}
use Rattle.ch11_reader.specs.Contents.{total_in}
use Rattle.ch11_reader.specs.Listing.{listed_behind}
use Rattle.ch11_stream.specs.declared.fault.StreamFault.{StreamFault}
use Rattle.ch11_stream.specs.Taking.{IsFaultAt, held}

-- a reading: the packets so far, newest first; the messages of the packet that was read last, and its bytes where they
-- are kept; where the next packet begins, in bytes from the start of the file; the bytes from there on, where they are
-- known; and the fault at which the reading ended
pub record Reading : Type 0 where
  pub earlier : List Found
  pub given : List Message
  pub kept : List ℕ
  pub offset : ℕ
  pub left : Option (List ℕ)
  pub fault : Option StreamFault

-- nothing was read yet
abbrev pub at_start : Option (List ℕ) → Reading
at_start left = record { earlier = []; given = []; kept = []; offset = 0; left = left; fault = None }

-- the packet that was read last
abbrev pub last_found : Reading → Packet → Found
last_found now p = record { offset = p.offset; header = p.header; messages = now.given }

-- the packet is the one that begins these bytes; all its own are kept of one of messages and of a time packet
pub record IsPacketRead (bytes : List ℕ) (now : Reading) (p : Packet) : Type 0 where
  pub packet : packet_at bytes ≡ Ok p.header
  pub messages : now.given ≡ packet_messages p.header bytes
  pub kept : now.kept ≡ take (held p.header) bytes
  pub left : now.left ≡ Some (drop p.header.packet_length bytes)

-- A packet was read: it is listed behind the earlier ones, and where the bytes to come were known, it is the one that
-- begins them.
pub record IsStep (before now : Reading) (p : Packet) : Type 0 where
  pub place : p.offset ≡ before.offset
  pub listed : p ≡ listed_behind before.earlier (last_found now p)
  pub entered : now.earlier ≡ last_found now p ∷ before.earlier
  pub moved : now.offset ≡ before.offset + p.header.packet_length
  pub few : total_in now.earlier < 2 ^ 64
  pub sound : (before.fault ≡ None) × (now.fault ≡ None)
  pub read : (bytes : List ℕ) → before.left ≡ Some bytes → IsPacketRead bytes now p

-- the reader is at its end
pub record IsEnd (before now : Reading) : Type 0 where
  pub same : now.earlier ≡ before.earlier
  pub none : now.given ≡ []
  pub passed : now.kept ≡ []
  pub stays : now.offset ≡ before.offset
  pub sound : (before.fault ≡ None) × (now.fault ≡ None)
  pub ended : IsAtEnd before.left
  pub left : IsAtEnd now.left

-- no packet was read, and none will be
pub record IsReadingStopped (before now : Reading) (e : StreamFault) : Type 0 where
  pub same : now.earlier ≡ before.earlier
  pub none : now.given ≡ []
  pub passed : now.kept ≡ []
  pub stays : now.offset ≡ before.offset
  pub stopped : now.fault ≡ Some e
  pub again : (f : StreamFault) → before.fault ≡ Some f → e ≡ f
  pub first : before.fault ≡ None → IsFaultAt before.offset before.left e

-- what an attempt to read a packet comes to
abbrev pub IsNextPacket : Result (Option Packet) StreamFault → Reading → Reading → Type 0
IsNextPacket (Ok (Some p)) before now = IsStep before now p
IsNextPacket (Ok None) before now = IsEnd before now
IsNextPacket (Err e) before now = IsReadingStopped before now e
