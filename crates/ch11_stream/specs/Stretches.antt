-- A reading of a recording that may be damaged, one stretch after the other.
use Rattle.std.specs.Prelude.{◌≡◌, ℕ, ◌+◌, ◌<◌, ◌≤◌, ◌^◌, List, [], length, take, drop, Option, None, Some}
use Rattle.std.specs.Prelude.{Result, Ok, Err}
use Rattle.std.specs.Io.KnownBytes.{IsAtEnd, prepend_known}
use Rattle.ch11_header.specs.declared.header.Header.{Header}
use Rattle.ch11_header.specs.HeaderReading.{body_start}
use Rattle.ch11_reader.specs.declared.packet.Checked.{Checked}
use Rattle.ch11_reader.specs.declared.skip.Skip.{Skip}
use Rattle.ch11_reader.specs.Contents.{total_in}
use Rattle.ch11_reader.specs.Recording.{Found, packet_messages, packet_at}
use Rattle.ch11_reader.specs.Skipping.{bytes_before}
use Rattle.ch11_stream.specs.declared.fault.StreamFault.{StreamFault}
use Rattle.ch11_stream.specs.declared.stretch.Stretch.{Stretch}
use Rattle.ch11_stream.specs.declared.stretch.Stretch.TheVariants as stretches
use Rattle.ch11_stream.specs.declared.stretches.Taken.{Taken}
use Rattle.ch11_stream.specs.declared.stretches.Taken.TheVariants as takes
use Rattle.ch11_stream.specs.Feeding.{IsOther}
use Rattle.ch11_stream.specs.Holding.{held_of}
use Rattle.ch11_stream.specs.Reading.{IsEnd, IsStep, Reading}
use Rattle.ch11_stream.specs.Taking.{held}

-- ---- what is kept

-- the bytes of the last packet, where it is of messages or a time packet
abbrev pub bytes_in : Option Header → List ℕ → List ℕ
bytes_in None ready = []
bytes_in (Some h) ready = take (held h) ready

-- the last packet's bytes are ready, and there are no more messages than bytes in front of what is to come
pub record HasPacketReady (earlier : List Found) (offset : ℕ) (last : Option Header) (ready : List ℕ)
    (fault : Option StreamFault) : Type 0 where
  pub few : total_in earlier ≤ offset
  pub whole : held_of last ≤ length ready
  pub room : (h : Header) → last ≡ Some h → body_start h + h.data_length ≤ h.packet_length
  pub stopped : (e : StreamFault) → fault ≡ Some e → (last ≡ None) × IsOther e

-- ---- what is taken

-- a packet was taken, all bytes of which are ready
pub record IsSoundAt (coming left : Option (List ℕ)) (ready : List ℕ) (c : Checked) : Type 0 where
  pub count : c.count ≡ length (packet_messages c.header ready)
  pub few : c.count ≤ c.header.packet_length
  pub whole : c.header.packet_length ≤ length ready
  pub room : body_start c.header + c.header.data_length ≤ c.header.packet_length
  pub packet : (bytes : List ℕ) → coming ≡ Some bytes → packet_at bytes ≡ Ok c.header
  pub messages : (bytes : List ℕ) → coming ≡ Some bytes
      → packet_messages c.header ready ≡ packet_messages c.header bytes
  pub kept : (bytes : List ℕ) → coming ≡ Some bytes → take (held c.header) ready ≡ take (held c.header) bytes
  pub behind : (bytes : List ℕ) → coming ≡ Some bytes
      → prepend_known (drop c.header.packet_length ready) left ≡ Some (drop c.header.packet_length bytes)

-- the bytes that begin these are that skip
pub record IsSkipOf (bytes : List ℕ) (comes : Option (List ℕ)) (s : Skip) : Type 0 where
  pub fault : packet_at bytes ≡ Err s.fault
  pub size : s.length ≡ bytes_before bytes
  pub left : comes ≡ Some (drop s.length bytes)

-- what taking a stretch of the bytes to come, which stand at an offset, comes to
abbrev pub TakesStretch : Result Taken StreamFault → ℕ → Option (List ℕ) → Option (List ℕ) → List ℕ → Type 0
TakesStretch (Ok (takes.Sound c)) offset coming left ready =
    IsSoundAt coming left ready c × (offset + c.header.packet_length < 2 ^ 64)
TakesStretch (Ok (takes.Skipped s)) offset coming left ready =
    (s.offset ≡ offset) × (offset + s.length < 2 ^ 64) × (0 < s.length)
    × ((bytes : List ℕ) → coming ≡ Some bytes → IsSkipOf bytes (prepend_known ready left) s)
TakesStretch (Ok takes.End) offset coming left ready = IsAtEnd coming × IsAtEnd (prepend_known ready left)
TakesStretch (Err e) offset coming left ready = IsOther e

-- ---- stretches

-- Bytes were skipped: where the bytes to come were known, they are all in front of the next packet without a fault.
pub record IsSkip (before now : Reading) (s : Skip) : Type 0 where
  pub place : s.offset ≡ before.offset
  pub same : now.earlier ≡ before.earlier
  pub none : now.given ≡ []
  pub passed : now.kept ≡ []
  pub moved : now.offset ≡ before.offset + s.length
  pub some : 0 < s.length
  pub sound : (before.fault ≡ None) × (now.fault ≡ None)
  pub skipped : (bytes : List ℕ) → before.left ≡ Some bytes → IsSkipOf bytes now.left s

-- nothing was read, for want of memory or since the reader failed, and nothing will be
pub record IsFailure (before now : Reading) (e : StreamFault) : Type 0 where
  pub same : now.earlier ≡ before.earlier
  pub none : now.given ≡ []
  pub passed : now.kept ≡ []
  pub stays : now.offset ≡ before.offset
  pub stopped : now.fault ≡ Some e
  pub again : (f : StreamFault) → before.fault ≡ Some f → e ≡ f
  pub other : IsOther e

-- what an attempt to read a stretch comes to
abbrev pub IsNextStretch : Result (Option Stretch) StreamFault → Reading → Reading → Type 0
IsNextStretch (Ok (Some (stretches.Sound p))) before now = IsStep before now p
IsNextStretch (Ok (Some (stretches.Skipped s))) before now = IsSkip before now s
IsNextStretch (Ok None) before now = IsEnd before now
IsNextStretch (Err e) before now = IsFailure before now e
