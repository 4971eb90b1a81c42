-- Packets on their way into a file.
use Rattle.std.specs.Prelude.{ℕ, ◌==◌, ◌&&◌, Bool, not, if◌then◌else◌, List, [], ◌∷◌, ◌++◌, take, drop}
use Rattle.ch11_header.specs.declared.header.Header.{Header}
use Rattle.ch11_header.specs.Kinds.{recording_index, setup_record}
use Rattle.ch11_reader.specs.Recording.{Found}
use Rattle.bench_complete.specs.declared.placed.Placed.{Placed}

-- a packet: what its header says, and all of its bytes
pub record Piece : Type 0 where
  pub header : Header
  pub bytes : List ℕ

-- the bytes of packets, one behind the other (IRIG 106-17 Chapter 11: a recording is a sequence of packets)
abbrev pub bytes_of : List Piece → List ℕ
bytes_of [] = []
bytes_of (p ∷ ps) = p.bytes ++ bytes_of ps

-- the packet that stands at an offset of a file
abbrev pub piece_at : List ℕ → ℕ → Header → Piece
piece_at file offset h = record { header = h; bytes = take h.packet_length (drop offset file) }

-- a packet goes over unless it is an index of a recording (type 03), whose offsets would be wrong
abbrev pub goes_over : Header → Bool
goes_over h = not (h.kind == recording_index)

-- the packets of a recording that go over
abbrev pub kept_packets : List ℕ → List Found → List Piece
kept_packets file [] = []
kept_packets file (p ∷ ps) = if goes_over p.header then piece_at file p.offset p.header ∷ kept_packets file ps
    else kept_packets file ps

-- the same by where they stand
abbrev pub kept_entries : List ℕ → List Placed → List Piece
kept_entries file [] = []
kept_entries file (e ∷ es) = if goes_over e.header then piece_at file e.offset e.header ∷ kept_entries file es
    else kept_entries file es

-- a packet goes over and is no setup record (type 01)
abbrev pub ends_leading : Header → Bool
ends_leading h = goes_over h && not (h.kind == setup_record)

-- the setup records (type 01) that stand in front of all other packets
abbrev pub leading : List Piece → List Piece
leading [] = []
leading (p ∷ ps) = if p.header.kind == setup_record then p ∷ leading ps else []

-- the packets that stand behind them
abbrev pub behind_leading : List Piece → List Piece
behind_leading [] = []
behind_leading (p ∷ ps) = if p.header.kind == setup_record then behind_leading ps else p ∷ ps
