-- What begins the bytes to come, judged by those that are ready, and bytes that are passed.
use Rattle.std.proofs.Common.{◌≡◌, ℕ, ◌+◌, ◌-◌, ◌*◌, ◌<◌, ◌≤◌, Bool, true, false, not, cond, eqb, ltb, List, ◌++◌, length, take, drop, get_or, Option, None, Some, Result, Ok, Err, refl, sym, ap, ◌∙◌, arith}
use Rattle.std.proofs.lemmas.Bool.{lt-ltb, ne_eqb}
use Rattle.std.proofs.lemmas.List.{append-nil, drop-append-le, drop-drop, get_or-drop, length-append, length-drop, take-append-le}
use Rattle.std.specs.Io.KnownBytes.{Keeps, prepend_known}
use Rattle.ch11_header.specs.declared.error.HeaderError.{HeaderError}
use Rattle.ch11_header.specs.declared.error.HeaderError.TheVariants.{Short, Sync}
use Rattle.ch11_header.specs.declared.header.Header.{Header}
use Rattle.ch11_header.specs.HeaderBytes.{number_at}
use Rattle.ch11_header.specs.HeaderReading.{header_in}
use Rattle.ch11_reader.specs.declared.error.PacketFault.{PacketFault}
use Rattle.ch11_reader.specs.declared.error.PacketFault.TheVariants as faults
use Rattle.ch11_reader.specs.declared.packet.Checked.{Checked}
use Rattle.ch11_reader.specs.Recording.{packet_messages, packet_at}
use Rattle.ch11_reader.specs.Skipping.{bytes_before}
use Rattle.ch11_reader.proofs.Joined.{header_front, header_long, header_room, least_of, messages_front, number_front, packet_front, rest_front}
use Rattle.ch11_reader.proofs.Stretches.{none_before, one_before}
use Rattle.ch11_stream.specs.Feeding.{IsFilled}
use Rattle.ch11_stream.specs.declared.looking.Coming.{Coming}
use Rattle.ch11_stream.specs.declared.looking.Coming.TheVariants as fronts
use Rattle.ch11_stream.specs.Looking.{Begins, IsFaulty, IsPast, IsPastOf, BeginsSound, IsSkipped, IsSoundReady}
use Rattle.ch11_stream.specs.Stretches.{IsSkipOf, IsSoundAt}
use Rattle.ch11_stream.specs.Holding.{is_kept}
use Rattle.ch11_stream.specs.Taking.{held}
use Rattle.ch11_stream.proofs.Feeding.{IsBoth, at_end, both_of}
use Rattle.ch11_stream.proofs.Judged.{held_most}

-- ---- known bytes

pub known_on : (a b : Option (List ℕ)) (bytes : List ℕ) → Keeps a b → a ≡ Some bytes → b ≡ Some bytes
known_on None b bytes k is = absurd cc
known_on (Some xs) None bytes k is = absurd k
known_on (Some xs) (Some ys) bytes k is = let same : xs ≡ bytes = cc in ap Some (k ∙ same)

-- known bytes begin with those that are ready
filled_both : (size : ℕ) (left leaves : Option (List ℕ)) (before ready bytes : List ℕ) (there : Bool) → IsFilled size left leaves before ready there → prepend_known before left ≡ Some bytes → IsBoth ready leaves bytes
filled_both size left leaves before ready bytes there f known = both_of ready leaves bytes (known_on (prepend_known before left) (prepend_known ready leaves) bytes f.kept known)

-- all bytes are ready where there are too few
all_ready : (size : ℕ) (left leaves : Option (List ℕ)) (before ready bytes : List ℕ) → IsFilled size left leaves before ready false → prepend_known before left ≡ Some bytes → bytes ≡ ready
all_ready size left leaves before ready bytes f known =
    let b = filled_both size left leaves before ready bytes false f known in
    sym (sym (append-nil ready) ∙ ap (λ (l : List ℕ). ready ++ l) (sym (at_end leaves b.others (f.few refl).1 b.known)) ∙ b.all)

-- the header is judged by the bytes that are ready
header_seen : (left leaves : Option (List ℕ)) (before ready bytes : List ℕ) (there : Bool) → IsFilled 24 left leaves before ready there → prepend_known before left ≡ Some bytes → header_in bytes ≡ header_in ready
header_seen left leaves before ready bytes true f known =
    let b = filled_both 24 left leaves before ready bytes true f known in
    ap header_in (sym b.all) ∙ header_front ready b.others (f.enough refl)
header_seen left leaves before ready bytes false f known = ap header_in (all_ready 24 left leaves before ready bytes f known)

-- ---- faults

no_header : (bytes : List ℕ) (e : HeaderError) → header_in bytes ≡ Err e → packet_at bytes ≡ Err (faults.Header e)
unfolding packet_at
no_header bytes e is = rw is refl

no_end : (bytes : List ℕ) (h : Header) → header_in bytes ≡ Ok h → length bytes < h.packet_length → packet_at bytes ≡ Err faults.End
unfolding packet_at
no_end bytes h is short = rw (is, lt-ltb (length bytes) h.packet_length short) refl

-- no header begins the bytes
pub header_faulty : (left leaves : Option (List ℕ)) (before ready : List ℕ) (there : Bool) (e : HeaderError) → IsFilled 24 left leaves before ready there → 0 < length ready → header_in ready ≡ Err e
    → IsFaulty (prepend_known before left) ready (faults.Header e)
header_faulty left leaves before ready there e f some is = record {
  some = some;
  known = λ bytes known. no_header bytes e (header_seen left leaves before ready bytes there f known ∙ is);
}

-- the header that the bytes began with is theirs
header_of : (left : Option (List ℕ)) (before bytes : List ℕ) (h : Header) → header_in before ≡ Ok h → prepend_known before left ≡ Some bytes → header_in bytes ≡ Ok h
header_of left before bytes h is known =
    let b = both_of before left bytes known in
    ap header_in (sym b.all) ∙ header_front before b.others (header_long before h is) ∙ is

-- the bytes end before the packet does
pub end_faulty : (left leaves : Option (List ℕ)) (before ready : List ℕ) (there : Bool) (h : Header) → there ≡ false → header_in before ≡ Ok h → length before ≤ length ready → IsFilled h.packet_length left leaves before ready there
    → IsFaulty (prepend_known before left) ready faults.End
end_faulty left leaves before ready true h none is more f = absurd cc
end_faulty left leaves before ready false h none is more f = record {
  some = omega (arith, header_long before h is, more);
  known = λ bytes known. no_end bytes h (header_of left before bytes h is known) (rw (all_ready h.packet_length left leaves before ready bytes f known) (f.few refl).0);
}

-- a packet is judged by its own bytes
packet_same : (ready others : List ℕ) (h : Header) → header_in (ready ++ others) ≡ Ok h → h.packet_length ≤ length ready → packet_at (ready ++ others) ≡ packet_at ready
unfolding packet_at
packet_same ready others h is whole =
    let room = header_room (ready ++ others) h is in
    let own : header_in ready ≡ Ok h = sym (header_front ready others (omega (arith, room.least, whole))) ∙ is in
    rw (is, own) (rest_front h ready others room whole)

pub body_faulty : (left leaves : Option (List ℕ)) (before ready : List ℕ) (there : Bool) (h : Header) (e : PacketFault) → there ≡ true → header_in before ≡ Ok h → length before ≤ length ready → IsFilled h.packet_length left leaves before ready there
    → packet_at ready ≡ Err e → IsFaulty (prepend_known before left) ready e
body_faulty left leaves before ready there h e all is more f wrong = record {
  some = omega (arith, header_long before h is, more);
  known = λ bytes known.
      let b = filled_both h.packet_length left leaves before ready bytes there f known in
      ap packet_at (sym b.all) ∙ packet_same ready b.others h (ap header_in b.all ∙ header_of left before bytes h is known) (f.enough all) ∙ wrong;
}

-- ---- bytes that are passed

-- a packet without a fault begins the bytes that are ready, and so those to come
settled_by : (left : Option (List ℕ)) (ready : List ℕ) (c : Checked) → IsSoundReady ready c → BeginsSound (prepend_known ready left)
settled_by left ready c s bytes known =
    let b = both_of ready left bytes known in
    none_before bytes c.header (ap packet_at (sym b.all) ∙ packet_front ready b.others c.header s.packet)

-- no fault begins the bytes to come
pub settled_unless_faulty : (front : Coming) (coming left : Option (List ℕ)) (ready : List ℕ) → ((f : PacketFault) → front ≡ fronts.Faulty f → ⊥) → Begins front coming (prepend_known ready left) ready → BeginsSound (prepend_known ready left)
settled_unless_faulty fronts.End coming left ready sound b = λ bytes known. ap bytes_before (at_end (prepend_known ready left) bytes b.1 known)
settled_unless_faulty (fronts.Sound c) coming left ready sound b = settled_by left ready c b
settled_unless_faulty (fronts.Faulty f) coming left ready sound b = absurd (sound f refl)

-- none are passed
pub none_past : (coming : Option (List ℕ)) → IsPast 0 coming coming
none_past coming bytes known = record { within = omega arith; left = known; faulty = omega arith }

pub past_kept : (a : ℕ) (coming middle comes : Option (List ℕ)) → IsPast a coming middle → Keeps middle comes → IsPast a coming comes
past_kept a coming middle comes first k bytes known =
    let p = first bytes known in
    record { within = p.within; left = known_on middle comes (drop a bytes) k p.left; faulty = p.faulty }

pub past_both : (a b : ℕ) (coming middle comes : Option (List ℕ)) → IsPast a coming middle → IsPast b middle comes → IsPast (a + b) coming comes
past_both a b coming middle comes first then bytes known =
    let p = first bytes known in
    let q = then (drop a bytes) p.left in
    let behind : drop b (drop a bytes) ≡ drop (a + b) bytes = drop-drop b a bytes in
    record {
      within = omega (arith, p.within, q.within, length-drop a bytes);
      left = q.left ∙ ap Some behind;
      faulty = omega (arith, p.faulty, q.faulty, ap bytes_before behind);
    }

-- bytes that are ready are passed
ready_past : (count : ℕ) (left : Option (List ℕ)) (ready bytes : List ℕ) → count ≤ length ready → prepend_known ready left ≡ Some bytes → bytes_before bytes ≡ count + bytes_before (drop count bytes)
    → IsPastOf count bytes (prepend_known (drop count ready) left)
ready_past count left ready bytes fits known faulty =
    let b = both_of ready left bytes known in
    let behind : drop count ready ++ b.others ≡ drop count bytes = sym (drop-append-le count ready b.others fits) ∙ ap (drop count) b.all in
    record {
      within = omega (arith, fits, ap length b.all, length-append ready b.others);
      left = ap (prepend_known (drop count ready)) b.known ∙ ap Some behind;
      faulty = faulty;
    }

-- the first byte is passed
first_past : (left : Option (List ℕ)) (ready bytes : List ℕ) (f : PacketFault) → 0 < length ready → prepend_known ready left ≡ Some bytes → packet_at bytes ≡ Err f → IsPastOf 1 bytes (prepend_known (drop 1 ready) left)
first_past left ready bytes f some known is =
    let b = both_of ready left bytes known in
    ready_past 1 left ready bytes (omega (arith, some)) known (omega (arith, one_before bytes f (omega (arith, some, ap length b.all, length-append ready b.others)) is))

pub faulty_past : (coming left : Option (List ℕ)) (ready : List ℕ) (f : PacketFault) → Keeps coming (prepend_known ready left) → IsFaulty coming ready f → IsPast 1 coming (prepend_known (drop 1 ready) left)
faulty_past coming left ready f k is bytes known = first_past left ready bytes f is.some (known_on coming (prepend_known ready left) bytes k known) (is.known bytes known)

-- the first byte and those behind it are passed, up to the next packet
pub all_skipped : (n : ℕ) (left comes : Option (List ℕ)) (ready : List ℕ) → 0 < length ready → IsPast n (prepend_known (drop 1 ready) left) comes → BeginsSound comes → IsSkipped (n + 1) (prepend_known ready left) comes
all_skipped n left comes ready some past settled bytes f known is =
    let p = first_past left ready bytes f some known is in
    let q = past (drop 1 bytes) p.left in
    let behind : drop n (drop 1 bytes) ≡ drop (n + 1) bytes = drop-drop n 1 bytes ∙ ap (λ (k : ℕ). drop k bytes) (omega arith) in
    (omega (arith, p.faulty, q.faulty, settled (drop n (drop 1 bytes)) q.left), q.left ∙ ap Some behind)

-- ---- no sync pattern

two_bytes : (x y : ℕ) → x < 256 → y < 256 → (x ≡ 0x25 → y ≡ 0xEB → ⊥) → eqb (x + 256 * (y + 256 * 0)) 0xEB25 ≡ false
two_bytes x y low high apart = ne_eqb (x + 256 * (y + 256 * 0)) 0xEB25 (λ e. apart (omega (arith, e, low, high)) (omega (arith, e, low, high)))

refused_by_sync : (short sync : Bool) (others : Result Header HeaderError) → sync ≡ false → (e : HeaderError) × (cond short (Err Short) (cond (not sync) (Err Sync) others) ≡ Err e)
refused_by_sync true sync others apart = (Short, refl)
refused_by_sync false sync others apart = (Sync, rw apart refl)

no_sync : (bytes : List ℕ) → eqb (number_at 0 2 bytes) 0xEB25 ≡ false → (e : HeaderError) × (header_in bytes ≡ Err e)
unfolding header_in
no_sync bytes apart = refused_by_sync (ltb (length bytes) 24) (eqb (number_at 0 2 bytes) 0xEB25) _ apart

-- two bytes that are no sync pattern, behind others
quiet_here : (bytes others : List ℕ) (count : ℕ) → count + 1 < length bytes → get_or bytes count 0 < 256 → get_or bytes (count + 1) 0 < 256 → (get_or bytes count 0 ≡ 0x25 → get_or bytes (count + 1) 0 ≡ 0xEB → ⊥)
    → eqb (number_at 0 2 (drop count bytes ++ others)) 0xEB25 ≡ false
quiet_here bytes others count within low high apart =
    let first : get_or (drop count bytes) 0 0 ≡ get_or bytes count 0 = get_or-drop count bytes 0 0 ∙ ap (λ (k : ℕ). get_or bytes k 0) (omega arith) in
    let second : get_or (drop count bytes) 1 0 ≡ get_or bytes (count + 1) 0 = get_or-drop count bytes 1 0 in
    rw (number_front 0 2 (drop count bytes) others (omega (arith, within, length-drop count bytes)), first, second) (two_bytes (get_or bytes count 0) (get_or bytes (count + 1) 0) low high apart)

pub one_quiet : (bytes others : List ℕ) (count : ℕ) → count + 1 < length bytes → get_or bytes count 0 < 256 → get_or bytes (count + 1) 0 < 256 → (get_or bytes count 0 ≡ 0x25 → get_or bytes (count + 1) 0 ≡ 0xEB → ⊥)
    → bytes_before (drop count bytes ++ others) ≡ 1 + bytes_before (drop (count + 1) bytes ++ others)
one_quiet bytes others count within low high apart =
    let front : List ℕ = drop count bytes in
    let size : length front ≡ length bytes - count = length-drop count bytes in
    let n = no_sync (front ++ others) (quiet_here bytes others count within low high apart) in
    let here = one_before (front ++ others) (faults.Header n.0) (omega (arith, within, size, length-append front others)) (no_header (front ++ others) n.0 n.1) in
    let behind : drop 1 (front ++ others) ≡ drop (count + 1) bytes ++ others = drop-append-le 1 front others (omega (arith, within, size)) ∙ ap (λ (l : List ℕ). l ++ others) (drop-drop 1 count bytes) in
    omega (arith, here, ap bytes_before behind)

-- bytes that are ready and begin no sync pattern are passed
pub quiet_past : (count : ℕ) (left : Option (List ℕ)) (ready : List ℕ) → count ≤ length ready → ((others : List ℕ) → bytes_before (ready ++ others) ≡ count + bytes_before (drop count ready ++ others))
    → IsPast count (prepend_known ready left) (prepend_known (drop count ready) left)
quiet_past count left ready fits quiet bytes known =
    let b = both_of ready left bytes known in
    let behind : drop count ready ++ b.others ≡ drop count bytes = sym (drop-append-le count ready b.others fits) ∙ ap (drop count) b.all in
    ready_past count left ready bytes fits known (ap bytes_before (sym b.all) ∙ quiet b.others ∙ ap (λ (l : List ℕ). count + bytes_before l) behind)

-- ---- stretches

-- a packet that is ready was taken
pub sound_at : (coming left : Option (List ℕ)) (ready : List ℕ) (c : Checked) → Keeps coming (prepend_known ready left) → IsSoundReady ready c → IsSoundAt coming left ready c
sound_at coming left ready c k s = record {
  count = s.count;
  few = s.few;
  whole = s.whole;
  room = s.room;
  packet = λ bytes known. let b = both bytes known in ap packet_at (sym b.all) ∙ packet_front ready b.others c.header s.packet;
  messages = λ bytes known.
      let b = both bytes known in
      sym (messages_front c.header ready b.others (record { least = (least_of ready c.header s.packet).0; body = s.room }) s.whole) ∙ ap (packet_messages c.header) b.all;
  kept = λ bytes known.
      let b = both bytes known in
      sym (take-append-le (held c.header) ready b.others (omega (arith, s.whole, held_most c.header (is_kept c.header) refl))) ∙ ap (take (held c.header)) b.all;
  behind = λ bytes known.
      let b = both bytes known in
      ap (prepend_known (drop c.header.packet_length ready)) b.known ∙ ap Some (sym (drop-append-le c.header.packet_length ready b.others s.whole) ∙ ap (drop c.header.packet_length) b.all);
}
  where
    both : (bytes : List ℕ) → coming ≡ Some bytes → IsBoth ready left bytes
    both bytes known = both_of ready left bytes (known_on coming (prepend_known ready left) bytes k known)

-- the bytes that were skipped
pub skip_of : (coming middle comes : Option (List ℕ)) (ready : List ℕ) (offset n : ℕ) (f : PacketFault) → Keeps coming middle → IsFaulty coming ready f → IsSkipped n middle comes
    → (bytes : List ℕ) → coming ≡ Some bytes → IsSkipOf bytes comes (record { offset = offset; length = n; fault = f })
skip_of coming middle comes ready offset n f k is passed bytes known =
    let fault = is.known bytes known in
    let p = passed bytes f (known_on coming middle bytes k known) fault in
    record { fault = fault; size = p.0; left = p.1 }
