-- The packet that was read last, whose bytes are ready if it is of messages or a time packet.
use Rattle.std.specs.Prelude.{◌≡◌, ℕ, ◌+◌, ◌≤◌, ◌==◌, Bool, true, if◌then◌else◌, List, [], length, Option, None, Some}
use Rattle.ch11_f1.specs.BodyReading.{Message}
use Rattle.ch11_header.specs.declared.header.Header.{Header}
use Rattle.ch11_header.specs.HeaderReading.{body_start}
use Rattle.ch11_header.specs.Kinds.{time_data}
use Rattle.ch11_reader.specs.Contents.{total_in}
use Rattle.ch11_reader.specs.Recording.{Found, holds_messages, packet_messages}
use Rattle.ch11_stream.specs.declared.fault.StreamFault.{StreamFault}

-- the packet's bytes are kept until the next one is read: it is of messages, or a time packet
abbrev pub is_kept : Header → Bool
is_kept h = if holds_messages h then true else h.kind == time_data

-- the header of a packet whose bytes are ready
abbrev pub last_of : Header → Option Header
last_of h = if is_kept h then Some h else None

-- how many of the bytes that are ready are the last packet's
abbrev pub held_of : Option Header → ℕ
held_of None = 0
held_of (Some h) = h.packet_length

-- the messages of the last packet
abbrev pub given_of : Option Header → List ℕ → List Message
given_of None ready = []
given_of (Some h) ready = packet_messages h ready

-- the last packet's bytes are ready, and there are no more messages than bytes in front of the next packet
pub record IsHolding (earlier : List Found) (offset : ℕ) (last : Option Header) (ready : List ℕ)
    (fault : Option StreamFault) : Type 0 where
  pub few : total_in earlier ≤ offset
  pub whole : held_of last ≤ length ready
  pub room : (h : Header) → last ≡ Some h → body_start h + h.data_length ≤ h.packet_length
  pub stopped : (e : StreamFault) → fault ≡ Some e → last ≡ None
