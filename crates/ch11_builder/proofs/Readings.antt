-- A packet is read again as what was written.
use Rattle.std.proofs.Common.{◌≡◌, ℕ, ◌+◌, ◌-◌, ◌*◌, ◌%◌, ◌^◌, ◌<◌, ◌≤◌, Bool, true, false, cond, leb, List, [], ◌∷◌, ◌++◌, length, map, take, drop, Ok, refl, sym, ap, ◌∙◌, append_assoc, arith}
use Rattle.std.specs.List.{flat_map, AllByRecursion}
use Rattle.std.proofs.lemmas.Bool.{le-leb, eq-eqb}
use Rattle.std.proofs.lemmas.List.{take_at, drop_at, append-nil, length-append, length-take-le, length-map}
use Rattle.byteorder.specs.Endian.{little_bytes}
use Rattle.ch11_f1.specs.declared.Record.{Record}
use Rattle.ch11_header.specs.declared.header.Header.{Header}
use Rattle.ch11_header.specs.HeaderBytes as header
use Rattle.ch11_header.specs.HeaderReading.{header_in, with_lawful_lengths}
use Rattle.ch11_f1.specs.BodyBytes.{words_of, head_bytes, record_bytes, body_bytes}
use Rattle.ch11_f1.specs.BodyReading.{messages_in}
use Rattle.ch11_f1.specs.Again as again
use Rattle.ch11_builder.specs.Packet.{Numbered, Channel, messages_of, size_of, padded, packet_length, has_gap, header_of, filled, packet}
use Rattle.ch11_builder.specs.Cutting.{is_piece}
use Rattle.ch11_builder.specs.Recorded.{IsRecorded, IsChannel}
use Rattle.ch11_builder.proofs.Pieces.{bounds_of}

-- ---- lengths

length_words : (ws : List ℕ) → length (flat_map (little_bytes 2) ws) ≡ 2 * length ws
length_words [] = refl
length_words (w ∷ ws) = omega (arith, length_words ws)

length_record : (r : Record) → length (record_bytes r) ≡ 14 + 2 * length (words_of r)
unfolding record_bytes head_bytes
length_record r = omega (arith, length_words (words_of r))

length_records : (ns : List Numbered) → length (flat_map record_bytes (messages_of ns)) ≡ size_of ns
length_records [] = refl
length_records (n ∷ ns) = omega (arith, length-append (record_bytes n.message) (flat_map record_bytes (messages_of ns)), length_record n.message, length_records ns)

length_body : (ns : List Numbered) → length (body_bytes (messages_of ns)) ≡ 4 + size_of ns
unfolding body_bytes
length_body ns = omega (arith, length_records ns)

length_header : (h : Header) → length (header.header_bytes h) ≡ 24
unfolding header.header_bytes header.summed_bytes
length_header h = refl

length_filled : (bytes : List ℕ) → length (filled bytes) ≡ padded (length bytes)
length_filled bytes = omega (arith, length-append bytes (take (padded (length bytes) - length bytes) (0 ∷ 0 ∷ 0 ∷ [])), length-take-le {A = ℕ} (padded (length bytes) - length bytes) (0 ∷ 0 ∷ 0 ∷ []) (omega arith))

pub packet_has_its_length : (c : Channel) (place before : ℕ) (ns : List Numbered) → length (packet c place before ns) ≡ packet_length ns
unfolding packet
packet_has_its_length c place before ns =
    let h : Header = header_of c place before ns in
    let b : List ℕ = body_bytes (messages_of ns) in
    let size : length (header.header_bytes h ++ b) ≡ 28 + size_of ns = omega (arith, length-append (header.header_bytes h) b, length_header h, length_body ns) in
    length_filled (header.header_bytes h ++ b) ∙ ap padded size

count_low : (ns : List Numbered) → length ns ≤ size_of ns
count_low [] = omega arith
count_low (n ∷ ns) = omega (arith, count_low ns)

-- ---- the header

flags_low : (b : Bool) → (cond b 0x10 0 < 2 ^ 8) × (leb 128 (cond b 0x10 0) ≡ false)
flags_low true = (omega arith, refl)
flags_low false = (omega arith, refl)

lawful : (h : Header) → leb 128 h.flags ≡ false → 24 ≤ h.packet_length → h.packet_length % 4 ≡ 0 → 24 + h.data_length ≤ h.packet_length → with_lawful_lengths h ≡ Ok h
unfolding with_lawful_lengths
lawful h plain long fours room = rw (plain, le-leb 24 h.packet_length long, eq-eqb (h.packet_length % 4) 0 fours, le-leb (24 + h.data_length) h.packet_length room) refl

header_fits : (c : Channel) (place before : ℕ) (n : Numbered) (ns : List Numbered) → IsChannel c → IsRecorded n → packet_length (n ∷ ns) ≤ c.limit → header.Fits (header_of c place before (n ∷ ns))
header_fits c place before n ns good recorded within = record {
  channel = good.channel;
  packet_length = omega (arith, good.high);
  data_length = omega (arith, good.high);
  version = good.version;
  sequence = omega arith;
  flags = (flags_low (has_gap before (n ∷ ns))).0;
  kind = omega arith;
  counter = recorded.stamp;
}

lengths_lawful : (c : Channel) (place before : ℕ) (ns : List Numbered) → with_lawful_lengths (header_of c place before ns) ≡ Ok (header_of c place before ns)
lengths_lawful c place before ns =
    lawful (header_of c place before ns) (flags_low (has_gap before ns)).1 (omega arith) (omega arith) (omega arith)

abbrev HeaderLaw : Type 0
HeaderLaw = (h : Header) (rest : List ℕ) → header.Fits h → with_lawful_lengths h ≡ Ok h → header_in (header.header_bytes h ++ rest) ≡ Ok h

-- header, body, and what stands behind them
parts : (h : Header) (ns : List Numbered) (rest : List ℕ) → (zs : List ℕ) × ((filled (header.header_bytes h ++ body_bytes (messages_of ns))) ++ rest ≡ header.header_bytes h ++ (body_bytes (messages_of ns) ++ zs))
parts h ns rest =
    let hs : List ℕ = header.header_bytes h in
    let bs : List ℕ = body_bytes (messages_of ns) in
    let zs : List ℕ = take (padded (length (hs ++ bs)) - length (hs ++ bs)) (0 ∷ 0 ∷ 0 ∷ []) in
    (zs ++ rest, append_assoc (hs ++ bs) zs rest ∙ append_assoc hs bs (zs ++ rest))

pub header_is_read : HeaderLaw → (c : Channel) (place before : ℕ) (ns : List Numbered) (rest : List ℕ) → IsChannel c → AllByRecursion IsRecorded ns → is_piece c.limit ns ≡ true
    → header_in (packet c place before ns ++ rest) ≡ Ok (header_of c place before ns)
unfolding packet
header_is_read law c place before [] rest good recorded piece = cc
header_is_read law c place before (n ∷ ns) rest good recorded piece =
    let h : Header = header_of c place before (n ∷ ns) in
    let p = parts h (n ∷ ns) rest in
    ap header_in p.1 ∙ law h (body_bytes (messages_of (n ∷ ns)) ++ p.0) (header_fits c place before n ns good recorded.0 (bounds_of c.limit n ns piece).0) (lengths_lawful c place before (n ∷ ns))

-- ---- the messages

fit : (ns : List Numbered) → AllByRecursion IsRecorded ns → AllByRecursion again.Fits (messages_of ns)
fit [] recorded = tt
fit (n ∷ ns) recorded =
    (record { stamp = omega (arith, recorded.0.stamp); block = recorded.0.block; gaps = recorded.0.gaps; size = omega (arith, recorded.0.words) }, fit ns recorded.1)

abbrev BodyLaw : Type 0
BodyLaw = (rs : List Record) (rest : List ℕ) → AllByRecursion again.Fits rs → length rs < 2 ^ 24 → messages_in (body_bytes rs ++ rest) ≡ Ok (map again.as_message rs)

pub messages_are_read : BodyLaw → (c : Channel) (place before : ℕ) (ns : List Numbered) (rest : List ℕ) → IsChannel c → AllByRecursion IsRecorded ns → is_piece c.limit ns ≡ true
    → messages_in (take (4 + size_of ns) (drop 24 (packet c place before ns ++ rest))) ≡ Ok (map again.as_message (messages_of ns))
unfolding packet
messages_are_read law c place before [] rest good recorded piece = cc
messages_are_read law c place before (n ∷ ns) rest good recorded piece =
    let h : Header = header_of c place before (n ∷ ns) in
    let bs : List ℕ = body_bytes (messages_of (n ∷ ns)) in
    let p = parts h (n ∷ ns) rest in
    let behind : drop 24 (header.header_bytes h ++ (bs ++ p.0)) ≡ bs ++ p.0 = drop_at (header.header_bytes h) (bs ++ p.0) 24 (length_header h) in
    let body : take (4 + size_of (n ∷ ns)) (bs ++ p.0) ≡ bs ++ [] = take_at bs p.0 (4 + size_of (n ∷ ns)) (length_body (n ∷ ns)) ∙ sym (append-nil bs) in
    let few : length (messages_of (n ∷ ns)) < 2 ^ 24 = omega (arith, length-map (n ∷ ns) (λ m. m.message), count_low (n ∷ ns), (bounds_of c.limit n ns piece).0, good.high) in
    ap (λ (x : List ℕ). messages_in (take (4 + size_of (n ∷ ns)) (drop 24 x))) p.1
    ∙ ap (λ (x : List ℕ). messages_in (take (4 + size_of (n ∷ ns)) x)) behind
    ∙ ap messages_in body
    ∙ law (messages_of (n ∷ ns)) [] (fit (n ∷ ns) recorded) few
