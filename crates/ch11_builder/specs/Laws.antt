-- Laws of the cutting, of a builder's run and of the bytes of a packet.
use Rattle.std.specs.Prelude.{◌≡◌, ℕ, ◌+◌, ◌≤◌, true, if◌then◌else◌, List, [], ◌∷◌, ◌++◌, length, map, take, drop, Ok}
use Rattle.std.specs.List.{AllByRecursion}
use Rattle.mil_line.specs.Ranges.{most_sent}
use Rattle.ch11_header.specs.HeaderReading.{header_in}
use Rattle.ch11_f1.specs.BodyBytes.{words_of}
use Rattle.ch11_f1.specs.BodyReading.{messages_in}
use Rattle.ch11_f1.specs.Again.{as_message}
use Rattle.ch11_builder.specs.Packet.{Numbered, Channel, messages_of, size_of, packet_length, header_of, packet}
use Rattle.ch11_builder.specs.Cutting.{is_piece, IsCutting, NeverFall, cut, packets}
use Rattle.ch11_builder.specs.Held.{Held, fresh, fits, pushed, packet_of, latest_number}
use Rattle.ch11_builder.specs.Run.{after, closed_by_pushes, last_packet}
use Rattle.ch11_builder.specs.Recorded.{IsRecorded, IsChannel}

-- what is computed is a cutting
abbrev pub CutIsACutting : Type 0
CutIsACutting =
    (limit : ℕ) (ns : List Numbered) → 256 ≤ limit → AllByRecursion (λ n. length (words_of n.message) ≤ most_sent) ns
    → IsCutting limit ns (cut limit ns)

-- there is no other cutting of records whose stamps never fall
abbrev pub CuttingIsTheCut : Type 0
CuttingIsTheCut =
    (limit : ℕ) (ns : List Numbered) (pieces : List (List Numbered)) → NeverFall 0 ns → IsCutting limit ns pieces
    → pieces ≡ cut limit ns

-- the packets that a builder closes, and the one that it closes at the end, are those of the cutting
abbrev pub RunGivesThePackets : Type 0
RunGivesThePackets =
    (c : Channel) (ns : List Numbered)
    → closed_by_pushes (fresh c) ns ++ last_packet (after (fresh c) ns) ≡ packets c ns

-- one more record at the end of a run
abbrev pub RunGoesOn : Type 0
RunGoesOn =
    (s : Held) (ns : List Numbered) (n : Numbered)
    → (after s (ns ++ n ∷ []) ≡ pushed (after s ns) n)
    × (closed_by_pushes s (ns ++ n ∷ [])
    ≡ closed_by_pushes s ns ++ (if fits (after s ns) n then [] else (packet_of (after s ns) ∷ [])))

-- the record that was pushed last has the latest number
abbrev pub PushedIsLatest : Type 0
PushedIsLatest = (s : Held) (n : Numbered) → latest_number (pushed s n) ≡ n.number

-- a packet is as long as its header says
abbrev pub PacketHasItsLength : Type 0
PacketHasItsLength =
    (c : Channel) (place before : ℕ) (ns : List Numbered) → length (packet c place before ns) ≡ packet_length ns

-- the header of a packet is read again, whatever follows the packet
abbrev pub HeaderIsReadAgain : Type 0
HeaderIsReadAgain =
    (c : Channel) (place before : ℕ) (ns : List Numbered) (rest : List ℕ) → IsChannel c → AllByRecursion IsRecorded ns
    → is_piece c.limit ns ≡ true → header_in (packet c place before ns ++ rest) ≡ Ok (header_of c place before ns)

-- the messages of a packet are read again: its body is as long as the header says, and stands behind the header
abbrev pub MessagesAreReadAgain : Type 0
MessagesAreReadAgain =
    (c : Channel) (place before : ℕ) (ns : List Numbered) (rest : List ℕ) → IsChannel c → AllByRecursion IsRecorded ns
    → is_piece c.limit ns ≡ true
    → messages_in (take (4 + size_of ns) (drop 24 (packet c place before ns ++ rest)))
    ≡ Ok (map as_message (messages_of ns))
