-- Packets of a file, each read at its offset.
use Rattle.std.proofs.Common.{◌≡◌, ℕ, zero, suc, ◌+◌, ◌<◌, ◌≤◌, ◌^◌, Bool, true, false, not, cond, ltb, eqb, ◌||◌, List, [], ◌∷◌, length, drop, get_or, Result, Ok, Err, refl, sym, ap, subst, ◌∙◌, arith}
use Rattle.std.specs.List.{list_any}
use Rattle.std.proofs.lemmas.Bool.{ltb-false}
use Rattle.std.proofs.lemmas.List.{drop-drop, length-drop, get_or-drop}
use Rattle.ch11_header.specs.declared.header.Header.{Header}
use Rattle.ch11_header.specs.declared.error.HeaderError.{HeaderError}
use Rattle.ch11_header.specs.HeaderBytes.{number_at, header_sum}
use Rattle.ch11_header.specs.HeaderReading.{header_in, fields_of, with_lawful_lengths, is_packet_length, has_room}
use Rattle.ch11_f1.specs.declared.error.BodyError.{BodyError}
use Rattle.ch11_f1.specs.BodyReading.{Message, messages_in}
use Rattle.ch11_reader.specs.declared.error.PacketFault.{PacketFault}
use Rattle.ch11_reader.specs.Recording.{Found, holds_messages, body_of, packet_messages, with_body, with_rest, with_header, packet_at, packets_from, packets_in}
use Rattle.ch11_reader.specs.Skipping.{stretches_from, packets_among, packets_read, first_stretch, first_size}
use Rattle.ch11_reader.proofs.Joined.{first_of, nothing_found}
use Rattle.bench_complete.specs.Pieces.{Piece, piece_at, goes_over, kept_packets, kept_entries}
use Rattle.bench_complete.specs.Judging.{ReadsAt, AllReadAt}
use Rattle.bench_complete.specs.Listing.{places_of}
use Rattle.bench_complete.specs.declared.placed.Placed.{Placed}

-- ---- a header's counter

abbrev pub AreBytes : List ℕ → Type 0
AreBytes xs = (k : ℕ) → get_or xs k 0 < 256

bytes-drop : (n : ℕ) (xs : List ℕ) → AreBytes xs → AreBytes (drop n xs)
bytes-drop n xs small k = omega (arith, get_or-drop n xs k 0, small (n + k))

six_bytes : (xs : List ℕ) → AreBytes xs → number_at 0 6 xs < 2 ^ 48
six_bytes xs small = omega (arith, small 0, small 1, small 2, small 3, small 4, small 5)

past_tests : (h : Header) (short sync sum : Bool) (e f g : HeaderError) (others : Result Header HeaderError)
    → cond short (Err e) (cond (not sync) (Err f) (cond (not sum) (Err g) others)) ≡ Ok h → others ≡ Ok h
past_tests h true sync sum e f g others is = cc
past_tests h false false sum e f g others is = cc
past_tests h false true false e f g others is = cc
past_tests h false true true e f g others is = is

pub lawful : (bytes : List ℕ) (h : Header) → header_in bytes ≡ Ok h → with_lawful_lengths (fields_of bytes) ≡ Ok h
unfolding header_in
lawful bytes h is = past_tests h (ltb (length bytes) 24) (eqb (number_at 0 2 bytes) 0xEB25) (eqb (number_at 22 2 bytes) (header_sum bytes)) _ _ _ _ is

same_by : (g h : Header) (a b : Bool) (e f : HeaderError) → cond (not a) (Err e) (cond (not b) (Err f) (Ok g)) ≡ Ok h → g ≡ h
same_by g h false b e f is = cc
same_by g h true false e f is = cc
same_by g h true true e f is = cc

fields_are : (bytes : List ℕ) (h : Header) → header_in bytes ≡ Ok h → fields_of bytes ≡ h
unfolding with_lawful_lengths
fields_are bytes h is = same_by (fields_of bytes) h (is_packet_length (fields_of bytes).packet_length) (has_room (fields_of bytes)) _ _ (lawful bytes h is)

counter_in : (bytes : List ℕ) → AreBytes bytes → (fields_of bytes).counter < 2 ^ 48
unfolding fields_of
counter_in bytes small = six_bytes (drop 16 bytes) (bytes-drop 16 bytes small)

pub counter_below : (bytes : List ℕ) (h : Header) → AreBytes bytes → header_in bytes ≡ Ok h → h.counter < 2 ^ 48
counter_below bytes h small is = subst (λ (x : Header). x.counter < 2 ^ 48) (fields_are bytes h is) (counter_in bytes small)

-- ---- a packet

body_is : (g h : Header) (m : Result (List Message) BodyError) → with_body g m ≡ Ok h → g ≡ h
body_is g h (Ok ms) is = cc
body_is g h (Err e) is = cc

rest_is : (g h : Header) (bytes : List ℕ) (short holds : Bool) (e : PacketFault) → ltb (length bytes) g.packet_length ≡ short
    → cond short (Err e) (cond holds (with_body g (messages_in (body_of g bytes))) (Ok g)) ≡ Ok h → (g ≡ h) × (g.packet_length ≤ length bytes)
rest_is g h bytes true holds e s is = cc
rest_is g h bytes false true e s is = (body_is g h _ is, ltb-false (length bytes) g.packet_length s)
rest_is g h bytes false false e s is = (cc, ltb-false (length bytes) g.packet_length s)

pub record IsFront (h : Header) (bytes : List ℕ) : Type 0 where
  pub header : header_in bytes ≡ Ok h
  pub rest : with_rest h bytes ≡ Ok h
  pub whole : h.packet_length ≤ length bytes

front_of : (bytes : List ℕ) (h : Header) (read : Result Header HeaderError) → header_in bytes ≡ read → with_header read bytes ≡ Ok h → IsFront h bytes
front_of bytes h (Err e) is found = cc
front_of bytes h (Ok g) is found =
    let r = rest_is g h bytes (ltb (length bytes) g.packet_length) (holds_messages g) _ refl found in
    record { header = is ∙ ap Ok r.0; rest = ap (λ (x : Header). with_rest x bytes) (sym r.0) ∙ found; whole = omega (arith, r.1, ap (λ (x : Header). x.packet_length) r.0) }

pub front : (bytes : List ℕ) (h : Header) → packet_at bytes ≡ Ok h → IsFront h bytes
unfolding packet_at
front bytes h is = front_of bytes h (header_in bytes) refl is

-- ---- all packets of a file

reads_at : (file : List ℕ) (offset b : ℕ) (bs : List ℕ) (h : Header) → AreBytes file → drop offset file ≡ b ∷ bs → packet_at (b ∷ bs) ≡ Ok h
    → ReadsAt file (record { offset = offset; header = h; messages = packet_messages h (b ∷ bs) })
reads_at file offset b bs h small behind is =
    let f = front (b ∷ bs) h is in
    let size = length-drop offset file in
    record {
      packet = ap packet_at behind ∙ is;
      messages = ap (packet_messages h) (sym behind);
      within = omega (arith, f.whole, size, ap length behind);
      counter = counter_below (b ∷ bs) h (subst AreBytes behind (bytes-drop offset file small)) f.header;
    }

no_more : (offset : ℕ) (bytes : List ℕ) (ps : List Found) → packets_from zero offset bytes ≡ Ok ps → ps ≡ []
unfolding packets_from
no_more offset bytes ps is = cc

read_from : (most offset : ℕ) (file bytes : List ℕ) (ps : List Found) → AreBytes file → drop offset file ≡ bytes → packets_from most offset bytes ≡ Ok ps → AllReadAt file ps
read_from zero offset file bytes ps small behind is = subst (AllReadAt file) (sym (no_more offset bytes ps is)) tt
read_from (suc most) offset file [] ps small behind is = subst (AllReadAt file) (sym (nothing_found (suc most) offset ps is)) tt
read_from (suc most) offset file (b ∷ bs) ps small behind is =
    let f = first_of most offset b bs ps is in
    let n : ℕ = f.header.packet_length in
    let later : drop (offset + n) file ≡ drop n (b ∷ bs) = sym (drop-drop n offset file) ∙ ap (drop n) behind in
    subst (AllReadAt file) (sym f.all) (reads_at file offset b bs f.header small behind f.is, read_from most (offset + n) file (drop n (b ∷ bs)) f.others small later f.behind)

pub all_read : (file : List ℕ) (ps : List Found) → AreBytes file → packets_in file ≡ Ok ps → AllReadAt file ps
all_read file ps small is = read_from (length file) 0 file file ps small refl is

stretches_by : (most offset : ℕ) (file : List ℕ) (b : ℕ) (bs : List ℕ) (r : Result Header PacketFault) → AreBytes file → drop offset file ≡ b ∷ bs → packet_at (b ∷ bs) ≡ r
    → AllReadAt file (packets_among (stretches_from most (offset + first_size r (b ∷ bs)) (drop (first_size r (b ∷ bs)) (b ∷ bs))))
    → AllReadAt file (packets_among (first_stretch offset r (b ∷ bs) ∷ stretches_from most (offset + first_size r (b ∷ bs)) (drop (first_size r (b ∷ bs)) (b ∷ bs))))
stretches_by most offset file b bs (Ok h) small behind is all = (reads_at file offset b bs h small behind is, all)
stretches_by most offset file b bs (Err f) small behind is all = all

read_stretches : (most offset : ℕ) (file bytes : List ℕ) → AreBytes file → drop offset file ≡ bytes → AllReadAt file (packets_among (stretches_from most offset bytes))
unfolding stretches_from
read_stretches zero offset file bytes small behind = tt
read_stretches (suc most) offset file [] small behind = tt
read_stretches (suc most) offset file (b ∷ bs) small behind =
    let n : ℕ = first_size (packet_at (b ∷ bs)) (b ∷ bs) in
    let later : drop (offset + n) file ≡ drop n (b ∷ bs) = sym (drop-drop n offset file) ∙ ap (drop n) behind in
    stretches_by most offset file b bs (packet_at (b ∷ bs)) small behind refl (read_stretches most (offset + n) file (drop n (b ∷ bs)) small later)

pub all_stretches_read : (file : List ℕ) → AreBytes file → AllReadAt file (packets_read file)
all_stretches_read file small = read_stretches (length file) 0 file file small refl

-- ---- where packets stand

pub kept_is : (file : List ℕ) (ps : List Found) → kept_entries file (places_of ps) ≡ kept_packets file ps
kept_is file [] = refl
kept_is file (p ∷ ps) = ap (λ (l : List Piece). cond (goes_over p.header) (piece_at file p.offset p.header ∷ l) l) (kept_is file ps)

pub any_is : (test : Header → Bool) (ps : List Found) → list_any (λ (e : Placed). test e.header) (places_of ps) ≡ list_any (λ (p : Found). test p.header) ps
any_is test [] = refl
any_is test (p ∷ ps) = ap (λ (b : Bool). test p.header || b) (any_is test ps)
