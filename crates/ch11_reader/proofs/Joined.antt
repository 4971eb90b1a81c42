-- One recording behind another is read as both.
use Rattle.std.proofs.Common.{◌≡◌, ℕ, zero, suc, ◌+◌, ◌*◌, ◌≤◌, Bool, true, false, not, ◌&&◌, cond, eqb, ltb, leb, List, [], ◌∷◌, ◌++◌, length, drop, map, Result, Ok, Err, refl, sym, ap, ◌∙◌, arith}
use Rattle.std.specs.List.{AllByRecursion}
use Rattle.std.proofs.lemmas.Bool.{le-ltb, ltb-false, leb-true}
use Rattle.std.proofs.lemmas.List.{drop-append-le, take-append-le, get_or_append_left, length-append, length-drop}
use Rattle.byteorder.specs.Endian.{little_from}
use Rattle.ch11_header.specs.declared.header.Header.{Header}
use Rattle.ch11_header.specs.declared.error.HeaderError.{HeaderError}
use Rattle.ch11_header.specs.HeaderBytes.{number_at, word_sum, header_sum}
use Rattle.ch11_header.specs.HeaderReading.{header_in, fields_of, with_lawful_lengths, is_packet_length, has_room, body_start}
use Rattle.ch11_f1.specs.declared.error.BodyError.{BodyError}
use Rattle.ch11_f1.specs.BodyReading.{Message, messages_in}
use Rattle.ch11_reader.specs.declared.error.PacketFault.{PacketFault}
use Rattle.ch11_reader.specs.declared.error.Refusal.{Refusal}
use Rattle.ch11_reader.specs.Recording.{Found, holds_messages, body_of, packet_messages, with_body, with_rest, with_header, packet_at, packets_from, packets_in, located, ◌>>=◌}
use Rattle.ch11_reader.specs.Joined.{later}

-- ---- a header is read off its 24 bytes

from_front : (n i : ℕ) (xs r : List ℕ) → i + n ≤ length xs → little_from i n (xs ++ r) ≡ little_from i n xs
from_front zero i xs r le = refl
from_front (suc n) i xs r le = rw (get_or_append_left xs r 0 i (omega (arith, le)), from_front n (suc i) xs r (omega (arith, le))) refl

pub number_front : (place size : ℕ) (xs r : List ℕ) → place + size ≤ length xs → number_at place size (xs ++ r) ≡ number_at place size xs
number_front place size xs r le =
    rw (drop-append-le place xs r (omega (arith, le))) (from_front size 0 (drop place xs) r (omega (arith, le, length-drop place xs)))

sum_front : (count : ℕ) (xs r : List ℕ) → 2 * count ≤ length xs → word_sum count (xs ++ r) ≡ word_sum count xs
unfolding word_sum
sum_front zero xs r le = refl
sum_front (suc count) xs r le =
    rw (number_front 0 2 xs r (omega (arith, le)), drop-append-le 2 xs r (omega (arith, le)), sum_front count (drop 2 xs) r (omega (arith, le, length-drop 2 xs))) refl

check_front : (xs r : List ℕ) → 24 ≤ length xs → header_sum (xs ++ r) ≡ header_sum xs
unfolding header_sum
check_front xs r le = rw (sum_front 11 xs r (omega (arith, le))) refl

fields_front : (xs r : List ℕ) → 24 ≤ length xs → fields_of (xs ++ r) ≡ fields_of xs
unfolding fields_of
fields_front xs r le =
    rw (
      number_front 2 2 xs r (omega (arith, le)),
      number_front 4 4 xs r (omega (arith, le)),
      number_front 8 4 xs r (omega (arith, le)),
      number_front 16 6 xs r (omega (arith, le)),
      get_or_append_left xs r 0 12 (omega (arith, le)),
      get_or_append_left xs r 0 13 (omega (arith, le)),
      get_or_append_left xs r 0 14 (omega (arith, le)),
      get_or_append_left xs r 0 15 (omega (arith, le)),
    ) refl

pub header_front : (xs r : List ℕ) → 24 ≤ length xs → header_in (xs ++ r) ≡ header_in xs
unfolding header_in
header_front xs r le =
    rw (
      le-ltb (length (xs ++ r)) 24 (omega (arith, le, length-append xs r)),
      le-ltb (length xs) 24 le,
      number_front 0 2 xs r (omega (arith, le)),
      number_front 22 2 xs r (omega (arith, le)),
      check_front xs r le,
      fields_front xs r le,
    ) refl

long_behind : (bytes : List ℕ) (h : Header) (b : Bool) (e : HeaderError) (others : Result Header HeaderError) → ltb (length bytes) 24 ≡ b → cond b (Err e) others ≡ Ok h → 24 ≤ length bytes
long_behind bytes h true e others eq is = cc
long_behind bytes h false e others eq is = ltb-false (length bytes) 24 eq

pub header_long : (bytes : List ℕ) (h : Header) → header_in bytes ≡ Ok h → 24 ≤ length bytes
unfolding header_in
header_long bytes h is = long_behind bytes h (ltb (length bytes) 24) _ _ refl is

past_tests : (h : Header) (short sync sum : Bool) (e f g : HeaderError) (others : Result Header HeaderError)
    → cond short (Err e) (cond (not sync) (Err f) (cond (not sum) (Err g) others)) ≡ Ok h → others ≡ Ok h
past_tests h true sync sum e f g others is = cc
past_tests h false false sum e f g others is = cc
past_tests h false true false e f g others is = cc
past_tests h false true true e f g others is = is

header_lawful : (bytes : List ℕ) (h : Header) → header_in bytes ≡ Ok h → with_lawful_lengths (fields_of bytes) ≡ Ok h
unfolding header_in
header_lawful bytes h is = past_tests h (ltb (length bytes) 24) (eqb (number_at 0 2 bytes) 0xEB25) (eqb (number_at 22 2 bytes) (header_sum bytes)) _ _ _ _ is

pub record HasRoom (h : Header) : Type 0 where
  pub least : 24 ≤ h.packet_length
  pub body : body_start h + h.data_length ≤ h.packet_length

both : (a b : Bool) → (a && b) ≡ true → a ≡ true
both true b e = refl
both false b e = cc

has_room_by : (h : Header) → is_packet_length h.packet_length ≡ true → has_room h ≡ true → HasRoom h
has_room_by h l r = record {
  least = leb-true 24 h.packet_length (both (leb 24 h.packet_length) _ l);
  body = leb-true (body_start h + h.data_length) h.packet_length r;
}

room_behind : (g h : Header) (lawful room : Bool) (e f : HeaderError) → is_packet_length g.packet_length ≡ lawful → has_room g ≡ room
    → cond (not lawful) (Err e) (cond (not room) (Err f) (Ok g)) ≡ Ok h → HasRoom h
room_behind g h false room e f l r is = cc
room_behind g h true false e f l r is = cc
room_behind g h true true e f l r is =
    let same : g ≡ h = cc in
    has_room_by h (ap (λ (x : Header). is_packet_length x.packet_length) (sym same) ∙ l) (ap has_room (sym same) ∙ r)

pub header_room : (bytes : List ℕ) (h : Header) → header_in bytes ≡ Ok h → HasRoom h
unfolding with_lawful_lengths
header_room bytes h is = room_behind (fields_of bytes) h _ _ _ _ refl refl (header_lawful bytes h is)

-- ---- a packet is read off its bytes

pub record IsFront (h : Header) (bytes : List ℕ) : Type 0 where
  pub header : header_in bytes ≡ Ok h
  pub rest : with_rest h bytes ≡ Ok h
  pub whole : h.packet_length ≤ length bytes

body_is : (g h : Header) (m : Result (List Message) BodyError) → with_body g m ≡ Ok h → g ≡ h
body_is g h (Ok ms) is = cc
body_is g h (Err e) is = cc

rest_is : (g h : Header) (bytes : List ℕ) (short holds : Bool) (e : PacketFault) → ltb (length bytes) g.packet_length ≡ short
    → cond short (Err e) (cond holds (with_body g (messages_in (body_of g bytes))) (Ok g)) ≡ Ok h → (g ≡ h) × (g.packet_length ≤ length bytes)
rest_is g h bytes true holds e s is = cc
rest_is g h bytes false true e s is = (body_is g h _ is, ltb-false (length bytes) g.packet_length s)
rest_is g h bytes false false e s is = (cc, ltb-false (length bytes) g.packet_length s)

front_of : (bytes : List ℕ) (h : Header) (read : Result Header HeaderError) → header_in bytes ≡ read → with_header read bytes ≡ Ok h → IsFront h bytes
front_of bytes h (Err e) is found = cc
front_of bytes h (Ok g) is found =
    let r = rest_is g h bytes (ltb (length bytes) g.packet_length) (holds_messages g) _ refl found in
    record { header = is ∙ ap Ok r.0; rest = ap (λ (x : Header). with_rest x bytes) (sym r.0) ∙ found; whole = omega (arith, r.1, ap (λ (x : Header). x.packet_length) r.0) }

pub front : (bytes : List ℕ) (h : Header) → packet_at bytes ≡ Ok h → IsFront h bytes
unfolding packet_at
front bytes h is = front_of bytes h (header_in bytes) refl is

body_front : (h : Header) (bytes r : List ℕ) → HasRoom h → h.packet_length ≤ length bytes → body_of h (bytes ++ r) ≡ body_of h bytes
body_front h bytes r room whole =
    rw (drop-append-le (body_start h) bytes r (omega (arith, room.body, whole)))
    (take-append-le h.data_length (drop (body_start h) bytes) r (omega (arith, room.body, whole, length-drop (body_start h) bytes)))

pub messages_front : (h : Header) (bytes r : List ℕ) → HasRoom h → h.packet_length ≤ length bytes → packet_messages h (bytes ++ r) ≡ packet_messages h bytes
messages_front h bytes r room whole = rw (body_front h bytes r room whole) refl

pub rest_front : (h : Header) (bytes r : List ℕ) → HasRoom h → h.packet_length ≤ length bytes → with_rest h (bytes ++ r) ≡ with_rest h bytes
rest_front h bytes r room whole =
    rw (le-ltb (length (bytes ++ r)) h.packet_length (omega (arith, whole, length-append bytes r)), le-ltb (length bytes) h.packet_length whole, body_front h bytes r room whole) refl

pub packet_front : (bytes r : List ℕ) (h : Header) → packet_at bytes ≡ Ok h → packet_at (bytes ++ r) ≡ Ok h
unfolding packet_at
packet_front bytes r h is =
    let f = front bytes h is in
    rw (header_front bytes r (header_long bytes h f.header), f.header) (rest_front h bytes r (header_room bytes h f.header) f.whole ∙ f.rest)

-- ---- packets

abbrev pub found_at : ℕ → Header → List ℕ → Found
found_at offset h bytes = record { offset = offset; header = h; messages = packet_messages h bytes }

pub record IsFirst (most offset : ℕ) (bytes : List ℕ) (ps : List Found) : Type 0 where
  pub header : Header
  pub others : List Found
  pub is : packet_at bytes ≡ Ok header
  pub behind : packets_from most (offset + header.packet_length) (drop header.packet_length bytes) ≡ Ok others
  pub all : ps ≡ found_at offset header bytes ∷ others

-- the value of an answer
rest_found : (most offset : ℕ) (bytes : List ℕ) (h : Header) (ps : List Found) (read : Result (List Found) Refusal)
    → packets_from most (offset + h.packet_length) (drop h.packet_length bytes) ≡ read → packet_at bytes ≡ Ok h
    → (read >>= λ others. Ok (found_at offset h bytes ∷ others)) ≡ Ok ps → IsFirst most offset bytes ps
rest_found most offset bytes h ps (Err e) behind at is = cc
rest_found most offset bytes h ps (Ok others) behind at is = record { header = h; others = others; is = at; behind = behind; all = cc }

first_found : (most offset : ℕ) (bytes : List ℕ) (ps : List Found) (read : Result Header PacketFault) → packet_at bytes ≡ read
    → (located offset read >>= λ h. packets_from most (offset + h.packet_length) (drop h.packet_length bytes) >>= λ others. Ok (found_at offset h bytes ∷ others)) ≡ Ok ps
    → IsFirst most offset bytes ps
first_found most offset bytes ps (Err e) at is = cc
first_found most offset bytes ps (Ok h) at is = rest_found most offset bytes h ps _ refl at is

pub first_of : (most offset b : ℕ) (bs : List ℕ) (ps : List Found) → packets_from (suc most) offset (b ∷ bs) ≡ Ok ps → IsFirst most offset (b ∷ bs) ps
unfolding packets_from
first_of most offset b bs ps is = first_found most offset (b ∷ bs) ps (packet_at (b ∷ bs)) refl is

from_first : (most offset b : ℕ) (bs : List ℕ) (h : Header) (others : List Found) → packet_at (b ∷ bs) ≡ Ok h
    → packets_from most (offset + h.packet_length) (drop h.packet_length (b ∷ bs)) ≡ Ok others
    → packets_from (suc most) offset (b ∷ bs) ≡ Ok (found_at offset h (b ∷ bs) ∷ others)
unfolding packets_from
from_first most offset b bs h others at behind = rw (at, behind) refl

pub nothing_found : (most offset : ℕ) (ps : List Found) → packets_from most offset [] ≡ Ok ps → ps ≡ []
unfolding packets_from
nothing_found zero offset ps is = cc
nothing_found (suc most) offset ps is = cc

nothing_is_found : (most offset : ℕ) → packets_from most offset [] ≡ Ok []
unfolding packets_from
nothing_is_found zero offset = refl
nothing_is_found (suc most) offset = refl

pub least_of : (bytes : List ℕ) (h : Header) → packet_at bytes ≡ Ok h → (24 ≤ h.packet_length) × (h.packet_length ≤ length bytes)
least_of bytes h at = let f = front bytes h at in ((header_room bytes h f.header).least, f.whole)

-- the same bytes elsewhere in a file
elsewhere : (most more by offset : ℕ) (bytes : List ℕ) (ps : List Found) → length bytes ≤ most → length bytes ≤ more
    → packets_from most offset bytes ≡ Ok ps → packets_from more (by + offset) bytes ≡ Ok (map (later by) ps)
elsewhere most more by offset [] ps few low is = rw (nothing_found most offset ps is) (nothing_is_found more (by + offset))
elsewhere zero more by offset (b ∷ bs) ps few low is = absurd (omega (arith, few))
elsewhere (suc most) zero by offset (b ∷ bs) ps few low is = absurd (omega (arith, low))
elsewhere (suc most) (suc more) by offset (b ∷ bs) ps few low is =
    let f = first_of most offset b bs ps is in
    let n : ℕ = f.header.packet_length in
    let bounds = least_of (b ∷ bs) f.header f.is in
    let short = length-drop n (b ∷ bs) in
    let behind = elsewhere most more by (offset + n) (drop n (b ∷ bs)) f.others (omega (arith, few, bounds.0, short)) (omega (arith, low, bounds.0, short)) f.behind in
    let place : by + (offset + n) ≡ (by + offset) + n = omega arith in
    rw (f.all) (from_first more (by + offset) b bs f.header (map (later by) f.others) f.is (ap (λ (k : ℕ). packets_from more k (drop n (b ∷ bs))) (sym place) ∙ behind))

append_behind : (n : ℕ) (a b : List ℕ) → n ≤ length a → drop n (a ++ b) ≡ drop n a ++ b
append_behind n a b le = drop-append-le n a b le

join_at : (most more fuel offset : ℕ) (a b : List ℕ) (ps qs : List Found) → length a ≤ most → length (a ++ b) ≤ more → length b ≤ fuel
    → packets_from most offset a ≡ Ok ps → packets_from fuel 0 b ≡ Ok qs
    → packets_from more offset (a ++ b) ≡ Ok (ps ++ map (later (offset + length a)) qs)
join_at most more fuel offset [] b ps qs few low room is then =
    rw (nothing_found most offset ps is)
    (ap (λ (k : ℕ). packets_from more k b) (omega arith) ∙ elsewhere fuel more offset 0 b qs room low then ∙ ap (λ (k : ℕ). Ok (map (later k) qs)) (omega arith))
join_at zero more fuel offset (x ∷ a) b ps qs few low room is then = absurd (omega (arith, few))
join_at (suc most) zero fuel offset (x ∷ a) b ps qs few low room is then = absurd (omega (arith, low))
join_at (suc most) (suc more) fuel offset (x ∷ a) b ps qs few low room is then =
    let f = first_of most offset x a ps is in
    let n : ℕ = f.header.packet_length in
    let bounds = least_of (x ∷ a) f.header f.is in
    let g = front (x ∷ a) f.header f.is in
    let short = length-drop n (x ∷ a) in
    let cut = append_behind n (x ∷ a) b bounds.1 in
    let behind = join_at most more fuel (offset + n) (drop n (x ∷ a)) b f.others qs (omega (arith, few, bounds.0, short))
    (omega (arith, low, bounds.0, bounds.1, short, length-append (drop n (x ∷ a)) b, length-append (x ∷ a) b)) room f.behind then in
    let place : offset + n + length (drop n (x ∷ a)) ≡ offset + length (x ∷ a) = omega (arith, short, bounds.1) in
    let same = messages_front f.header (x ∷ a) b (header_room (x ∷ a) f.header g.header) g.whole in
    rw (f.all, ← same, ← place) (from_first more offset x (a ++ b) f.header (f.others ++ map (later (offset + n + length (drop n (x ∷ a)))) qs)
    (packet_front (x ∷ a) b f.header f.is) (ap (packets_from more (offset + n)) cut ∙ behind))

pub recordings_join : (a b : List ℕ) (ps qs : List Found) → packets_in a ≡ Ok ps → packets_in b ≡ Ok qs → packets_in (a ++ b) ≡ Ok (ps ++ map (later (length a)) qs)
recordings_join a b ps qs first then =
    let same : 0 + length a ≡ length a = omega arith in
    join_at (length a) (length (a ++ b)) (length b) 0 a b ps qs (omega arith) (omega arith) (omega arith) first then
    ∙ ap (λ (k : ℕ). Ok (ps ++ map (later k) qs)) same

-- ---- packets of other types

silent_at : (most offset : ℕ) (bytes : List ℕ) (ps : List Found) → length bytes ≤ most → packets_from most offset bytes ≡ Ok ps
    → AllByRecursion (λ (p : Found). holds_messages p.header ≡ false → p.messages ≡ []) ps
silent_at most offset [] ps few is = rw (nothing_found most offset ps is) tt
silent_at zero offset (b ∷ bs) ps few is = absurd (omega (arith, few))
silent_at (suc most) offset (b ∷ bs) ps few is =
    let f = first_of most offset b bs ps is in
    let n : ℕ = f.header.packet_length in
    let later_ones = silent_at most (offset + n) (drop n (b ∷ bs)) f.others (omega (arith, few, (least_of (b ∷ bs) f.header f.is).0, length-drop n (b ∷ bs))) f.behind in
    rw (f.all) (λ none. rw none refl, later_ones)

pub others_are_silent : (bytes : List ℕ) (ps : List Found) → packets_in bytes ≡ Ok ps
    → AllByRecursion (λ (p : Found). holds_messages p.header ≡ false → p.messages ≡ []) ps
others_are_silent bytes ps is = silent_at (length bytes) 0 bytes ps (omega arith) is
