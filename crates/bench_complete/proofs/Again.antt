-- The packets that were written are read again.
use Rattle.std.proofs.Common.{◌≡◌, ℕ, ◌+◌, Bool, true, false, not, eqb, List, [], ◌∷◌, ◌++◌, length, map, drop, Ok, refl, sym, ap, ◌∙◌, arith}
use Rattle.std.specs.List.{AllByRecursion}
use Rattle.std.proofs.lemmas.Bool.{eqb-true}
use Rattle.ch11_f1.specs.BodyReading.{Message}
use Rattle.ch11_reader.specs.Recording.{Found, holds_messages, packet_messages, packet_at, packets_from, packets_in}
use Rattle.ch11_reader.specs.Contents.{reading}
use Rattle.ch11_reader.specs.Joined.{later}
use Rattle.ch11_reader.proofs.Joined.{recordings_join}
use Rattle.bench_complete.specs.Pieces.{Piece, bytes_of, piece_at, goes_over, kept_packets}
use Rattle.bench_complete.specs.Merging.{of_channel}
use Rattle.bench_complete.specs.Judging.{ReadsAt, AllReadAt}
use Rattle.bench_complete.proofs.Alone.{one_packet, own_size, own_packet, own_messages}

-- a packet that goes over and is read by itself
pub record IsWhole (p : Piece) : Type 0 where
  pub over : goes_over p.header ≡ true
  pub size : length p.bytes ≡ p.header.packet_length
  pub read : packet_at p.bytes ≡ Ok p.header

abbrev pub AreWhole : List Piece → Type 0
AreWhole ps = AllByRecursion IsWhole ps

-- what packets are read as, from an offset on
abbrev pub found_from : ℕ → List Piece → List Found
found_from offset [] = []
found_from offset (p ∷ ps) = record { offset = offset; header = p.header; messages = packet_messages p.header p.bytes } ∷ found_from (offset + length p.bytes) ps

all_later : (by offset : ℕ) (ps : List Piece) → map (later by) (found_from offset ps) ≡ found_from (by + offset) ps
all_later by offset [] = refl
all_later by offset (p ∷ ps) =
    let place : by + (offset + length p.bytes) ≡ (by + offset) + length p.bytes = omega arith in
    ap (λ (l : List Found). record { offset = by + offset; header = p.header; messages = packet_messages p.header p.bytes } ∷ l)
    (all_later by (offset + length p.bytes) ps ∙ ap (λ (k : ℕ). found_from k ps) place)

nothing_is_read : packets_in [] ≡ Ok []
unfolding packets_from
nothing_is_read = refl

pub read_again : (ps : List Piece) → AreWhole ps → packets_in (bytes_of ps) ≡ Ok (found_from 0 ps)
read_again [] all = nothing_is_read
read_again (p ∷ ps) all =
    let one = one_packet p.bytes p.header all.0.size all.0.read in
    let rest = read_again ps all.1 in
    let place : length p.bytes + 0 ≡ 0 + length p.bytes = omega arith in
    recordings_join p.bytes (bytes_of ps) (record { offset = 0; header = p.header; messages = packet_messages p.header p.bytes } ∷ []) (found_from 0 ps) one rest
    ∙ ap (λ (l : List Found). Ok (record { offset = 0; header = p.header; messages = packet_messages p.header p.bytes } ∷ l)) (all_later (length p.bytes) 0 ps ∙ ap (λ (k : ℕ). found_from k ps) place)

-- ---- the messages of a channel

abbrev pub messages_in : List Piece → List Message
messages_in [] = []
messages_in (p ∷ ps) = packet_messages p.header p.bytes ++ messages_in ps

heard_by : (channel offset : ℕ) (p : Piece) (ps : List Piece) (own : Bool) → eqb p.header.channel channel ≡ own → reading (found_from (offset + length p.bytes) ps) channel ≡ messages_in (of_channel channel ps)
    → reading (found_from offset (p ∷ ps)) channel ≡ messages_in (of_channel channel (p ∷ ps))
heard_by channel offset p ps true o rest = rw o (ap (λ (l : List Message). packet_messages p.header p.bytes ++ l) rest)
heard_by channel offset p ps false o rest = rw o rest

-- what a channel is read as
pub heard : (channel offset : ℕ) (ps : List Piece) → reading (found_from offset ps) channel ≡ messages_in (of_channel channel ps)
heard channel offset [] = refl
heard channel offset (p ∷ ps) = heard_by channel offset p ps (eqb p.header.channel channel) refl (heard channel (offset + length p.bytes) ps)

-- ---- the packets of a recording

pub whole_at : (file : List ℕ) (p : Found) → goes_over p.header ≡ true → ReadsAt file p → IsWhole (piece_at file p.offset p.header)
whole_at file p o r = record { over = o; size = own_size (drop p.offset file) p.header r.packet; read = own_packet (drop p.offset file) p.header r.packet }

whole_by : (file : List ℕ) (p : Found) (ps : List Found) (over : Bool) → goes_over p.header ≡ over → ReadsAt file p → AreWhole (kept_packets file ps) → AreWhole (kept_packets file (p ∷ ps))
whole_by file p ps true o r all = rw o (whole_at file p o r, all)
whole_by file p ps false o r all = rw o all

pub kept_whole : (file : List ℕ) (ps : List Found) → AllReadAt file ps → AreWhole (kept_packets file ps)
kept_whole file [] all = tt
kept_whole file (p ∷ ps) all = whole_by file p ps (goes_over p.header) refl all.0 (kept_whole file ps all.1)

silent_index : (p : Found) (file : List ℕ) → ReadsAt file p → goes_over p.header ≡ false → p.messages ≡ []
silent_index p file r left =
    let kind : p.header.kind ≡ 3 = eqb-true p.header.kind 3 (is_index (eqb p.header.kind 3) left) in
    let other : holds_messages p.header ≡ false = ap (λ (k : ℕ). eqb k 0x19) kind in
    let none : packet_messages p.header (drop p.offset file) ≡ [] = rw other refl in
    r.messages ∙ none
  where
    is_index : (b : Bool) → not b ≡ false → b ≡ true
    is_index true e = refl
    is_index false e = cc

kept_by : (file : List ℕ) (channel : ℕ) (p : Found) (ps : List Found) (over own : Bool) → goes_over p.header ≡ over → eqb p.header.channel channel ≡ own → ReadsAt file p
    → messages_in (of_channel channel (kept_packets file ps)) ≡ reading ps channel → messages_in (of_channel channel (kept_packets file (p ∷ ps))) ≡ reading (p ∷ ps) channel
kept_by file channel p ps true true o c r rest =
    rw (o, c) (ap (λ (l : List Message). l ++ messages_in (of_channel channel (kept_packets file ps))) (own_messages (drop p.offset file) p.header r.packet ∙ sym r.messages) ∙ ap (λ (l : List Message). p.messages ++ l) rest)
kept_by file channel p ps true false o c r rest = rw (o, c) rest
kept_by file channel p ps false true o c r rest = rw (o, c) (rest ∙ sym (ap (λ (l : List Message). l ++ reading ps channel) (silent_index p file r o)))
kept_by file channel p ps false false o c r rest = rw (o, c) rest

-- the packets that go over are read as the recording
pub kept_heard : (file : List ℕ) (channel : ℕ) (ps : List Found) → AllReadAt file ps → messages_in (of_channel channel (kept_packets file ps)) ≡ reading ps channel
kept_heard file channel [] all = refl
kept_heard file channel (p ∷ ps) all = kept_by file channel p ps (goes_over p.header) (eqb p.header.channel channel) refl refl all.0 (kept_heard file channel ps all.1)
