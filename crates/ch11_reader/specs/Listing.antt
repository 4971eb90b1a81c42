-- What an index tells of each packet.
use Rattle.std.specs.Prelude.{ℕ, ◌+◌, ◌%◌, ◌==◌, Bool, false, not, if◌then◌else◌, List, [], ◌∷◌, length, Option, None}
use Rattle.std.specs.Prelude.{Some}
use Rattle.ch11_reader.specs.declared.packet.Packet.{Packet}
use Rattle.ch11_reader.specs.Recording.{Found}
use Rattle.ch11_reader.specs.Contents.{total_in}

-- the sequence number of the channel's latest packet; the packets stand newest first
abbrev pub latest_sequence : ℕ → List Found → Option ℕ
latest_sequence channel [] = None
latest_sequence channel (p ∷ earlier) = if p.header.channel == channel then Some p.header.sequence
    else latest_sequence channel earlier

-- the number isn't one more, modulo 256, than that of the channel's packet before; false for its first
abbrev pub jumps : Option ℕ → ℕ → Bool
jumps None sequence = false
jumps (Some before) sequence = not (sequence == (before + 1) % 256)

-- a packet behind earlier ones, which stand newest first
abbrev pub listed_behind : List Found → Found → Packet
listed_behind earlier p = record {
  offset = p.offset;
  header = p.header;
  before = total_in earlier;
  count = length p.messages;
  sequence_jump = jumps (latest_sequence p.header.channel earlier) p.header.sequence;
}

abbrev pub listing_behind : List Found → List Found → List Packet
listing_behind earlier [] = []
listing_behind earlier (p ∷ ps) = listed_behind earlier p ∷ listing_behind (p ∷ earlier) ps

-- the packets of a recording as an index lists them
abbrev pub listing : List Found → List Packet
listing ps = listing_behind [] ps
