-- One more record in the open packet.
use Rattle.std.proofs.Common.{◌≡◌, ℕ, ◌+◌, ◌*◌, ◌%◌, ◌^◌, ◌<◌, ◌≤◌, Bool, true, false, cond, not, ◌||◌, ◌&&◌, eqb, leb, ltb, List, [], ◌∷◌, ◌++◌, length, take, drop, refl, sym, ap, ◌∙◌, arith}
use Rattle.std.specs.List.{flat_map}
use Rattle.std.proofs.lemmas.Bool.{ne_eqb, le-leb, lt-leb}
use Rattle.std.proofs.lemmas.List.{drop-append-le, length-take-le, append-nil, take_at, length-map}
use Rattle.std.proofs.lemmas.List.Concat.{flat_map-append}
use Rattle.byteorder.specs.Endian.{little_bytes}
use Rattle.ch11_header.specs.HeaderBytes.{header_bytes}
use Rattle.ch11_f1.specs.BodyBytes.{words_of, record_bytes, body_bytes}
use Rattle.ch11_builder.specs.Packet.{Numbered, messages_of, size_of, padded, packet_length, first_stamp, last_number, has_gap, filled, packet}
use Rattle.ch11_builder.specs.Cutting.{is_empty, is_piece, last_stamp}
use Rattle.ch11_builder.specs.Held.{Held, fits, closed, with_record, pushed, latest_number, packet_of}

pub size_more : (ns : List Numbered) (n : Numbered) → size_of (ns ++ n ∷ []) ≡ size_of ns + (14 + 2 * length (words_of n.message))
size_more [] n = omega arith
size_more (m ∷ ns) n = omega (arith, size_more ns n)

pub last_stamp_more : (d : ℕ) (ns : List Numbered) (n : Numbered) → last_stamp d (ns ++ n ∷ []) ≡ n.message.stamp
last_stamp_more d [] n = refl
last_stamp_more d (m ∷ ns) n = last_stamp_more m.message.stamp ns n

pub last_number_more : (d : ℕ) (ns : List Numbered) (n : Numbered) → last_number d (ns ++ n ∷ []) ≡ n.number
last_number_more d [] n = refl
last_number_more d (m ∷ ns) n = last_number_more m.number ns n

pub first_stamp_more : (count : ℕ) (ns : List Numbered) (n : Numbered) → count ≡ length ns → cond (eqb count 0) n.message.stamp (first_stamp ns) ≡ first_stamp (ns ++ n ∷ [])
first_stamp_more count [] n e = rw e refl
first_stamp_more count (m ∷ ns) n e =
    let no : eqb count 0 ≡ false = ne_eqb count 0 (λ z. absurd (omega (arith, z, e))) in
    rw no refl

or_right : (a b c : Bool) → ((a || b) || c) ≡ (a || (b || c))
or_right true b c = refl
or_right false b c = refl

or_false : (b : Bool) → (b || false) ≡ b
or_false true = refl
or_false false = refl

pub gap_more : (before : ℕ) (ns : List Numbered) (n : Numbered) → (has_gap before ns || not (eqb n.number (last_number before ns + 1))) ≡ has_gap before (ns ++ n ∷ [])
gap_more before [] n = sym (or_false (not (eqb n.number (before + 1))))
gap_more before (m ∷ ns) n = or_right (not (eqb m.number (before + 1))) (has_gap m.number ns) (not (eqb n.number (last_number m.number ns + 1))) ∙ ap (λ (b : Bool). not (eqb m.number (before + 1)) || b) (gap_more m.number ns n)

pub length_more : (ns : List Numbered) (n : Numbered) → length (ns ++ n ∷ []) ≡ length ns + 1
length_more [] n = refl
length_more (m ∷ ns) n = omega (arith, length_more ns n)

entries_more : (ns : List Numbered) (n : Numbered) → messages_of (ns ++ n ∷ []) ≡ messages_of ns ++ n.message ∷ []
entries_more [] n = refl
entries_more (m ∷ ns) n = ap (λ x. m.message ∷ x) (entries_more ns n)

pub body_more : (buffer : List ℕ) (used : ℕ) (ns : List Numbered) (n : Numbered) → 28 ≤ used → used ≤ length buffer → drop 28 (take used buffer) ≡ flat_map record_bytes (messages_of ns)
    → drop 28 (take used buffer ++ record_bytes n.message) ≡ flat_map record_bytes (messages_of (ns ++ n ∷ []))
body_more buffer used ns n low long so_far =
    let apart : drop 28 (take used buffer ++ record_bytes n.message) ≡ drop 28 (take used buffer) ++ record_bytes n.message = drop-append-le 28 (take used buffer) (record_bytes n.message) (omega (arith, length-take-le used buffer long)) in
    let joined : flat_map record_bytes (messages_of ns ++ n.message ∷ []) ≡ flat_map record_bytes (messages_of ns) ++ (record_bytes n.message ++ []) = flat_map-append record_bytes (messages_of ns) (n.message ∷ []) in
    apart ∙ ap (λ (x : List ℕ). x ++ record_bytes n.message) so_far
    ∙ ap (λ (x : List ℕ). flat_map record_bytes (messages_of ns) ++ x) (sym (append-nil (record_bytes n.message)))
    ∙ sym joined ∙ ap (flat_map record_bytes) (sym (entries_more ns n))

pub fits_is : (s : Held) (n : Numbered) (used : ℕ) → 0 < length s.records → used ≡ 28 + size_of s.records
    → fits s n ≡ (leb (padded (used + (14 + 2 * length (words_of n.message)))) s.channel.limit && ltb n.message.stamp (first_stamp s.records + 1000000))
unfolding fits
fits_is s n used some e = go s.records some e
  where
    go : (ns : List Numbered) → 0 < length ns → used ≡ 28 + size_of ns
        → (is_empty ns || is_piece s.channel.limit (ns ++ n ∷ [])) ≡ (leb (padded (used + (14 + 2 * length (words_of n.message)))) s.channel.limit && ltb n.message.stamp (first_stamp ns + 1000000))
    go [] some e = absurd (omega arith)
    go (m ∷ ns) some e =
        let size : 28 + size_of ((m ∷ ns) ++ n ∷ []) ≡ used + (14 + 2 * length (words_of n.message)) = omega (arith, size_more (m ∷ ns) n) in
        let stamp : last_stamp m.message.stamp (ns ++ n ∷ []) ≡ n.message.stamp = last_stamp_more m.message.stamp ns n in
        rw (size, stamp) refl

pub takes_yes : (s : Held) (n : Numbered) (used p first : ℕ) → 0 < length s.records → used ≡ 28 + size_of s.records → p ≡ padded (used + (14 + 2 * length (words_of n.message))) → p ≤ s.channel.limit → first ≡ first_stamp s.records
    → ltb n.message.stamp (first + 1000000) ≡ fits s n
takes_yes s n used p first some e is le f =
    let yes : leb (padded (used + (14 + 2 * length (words_of n.message)))) s.channel.limit ≡ true = rw (← is) (le-leb p s.channel.limit le) in
    let whole = fits_is s n used some e in
    rw (whole, yes, f) refl

pub takes_no : (s : Held) (n : Numbered) (used p : ℕ) → 0 < length s.records → used ≡ 28 + size_of s.records → p ≡ padded (used + (14 + 2 * length (words_of n.message))) → s.channel.limit < p
    → leb p s.channel.limit ≡ fits s n
takes_no s n used p some e is lt =
    let no : leb p s.channel.limit ≡ false = lt-leb p s.channel.limit lt in
    let no' : leb (padded (used + (14 + 2 * length (words_of n.message)))) s.channel.limit ≡ false = rw (← is) no in
    let whole = fits_is s n used some e in
    rw (whole, no', no) refl

pub refilled : (n : ℕ) (new old : List ℕ) → length new ≡ n → take n (new ++ drop (length new) old) ≡ new
refilled n new old e = take_at new (drop (length new) old) n e

pub choose_low : (b : Bool) (x y : ℕ) → x < 2 ^ 48 → y < 2 ^ 48 → cond b x y < 2 ^ 48
choose_low true x y p q = p
choose_low false x y p q = q

pub packet_from : (s : Held) (count first pl dl fl : ℕ) (body : List ℕ) → pl ≡ packet_length s.records → dl ≡ 4 + size_of s.records → fl ≡ cond (has_gap s.before s.records) 16 0 → first ≡ first_stamp s.records
    → count ≡ length s.records → body ≡ flat_map record_bytes (messages_of s.records)
    → filled (header_bytes (record { channel = s.channel.channel; packet_length = pl; data_length = dl; version = s.channel.version; sequence = s.place % 256; flags = fl; kind = 0x19; counter = first }) ++ (little_bytes 4 (2 ^ 30 + count) ++ body)) ≡ packet_of s
unfolding packet body_bytes
packet_from s count first pl dl fl body e1 e2 e3 e4 c b =
    let many : length (messages_of s.records) ≡ length s.records = length-map s.records (λ n. n.message) in
    rw (e1, e2, e3, e4, c, b, many) refl

pub room_is : (s : Held) (n : Numbered) (used p : ℕ) → used ≡ 28 + size_of s.records → p ≡ padded (used + (14 + 2 * length (words_of n.message))) → p ≤ s.channel.limit → packet_length (s.records ++ n ∷ []) ≤ s.channel.limit
room_is s n used p e is le =
    let size : 28 + size_of (s.records ++ n ∷ []) ≡ used + (14 + 2 * length (words_of n.message)) = omega (arith, size_more s.records n) in
    rw (size, ← is) le

-- the record that was pushed last has the latest number
pub latest_pushed : (s : Held) (n : Numbered) → latest_number (pushed s n) ≡ n.number
unfolding pushed
latest_pushed s n = go (fits s n)
  where
    go : (b : Bool) → latest_number (with_record (cond b s (closed s)) n) ≡ n.number
    go true = last_number_more s.before s.records n
    go false = last_number_more (latest_number s) [] n
