-- A packet of a file is a recording by itself.
use Rattle.std.proofs.Common.{◌≡◌, ℕ, zero, suc, ◌+◌, ◌*◌, ◌<◌, ◌≤◌, Bool, true, false, not, cond, leb, ◌&&◌, List, [], ◌∷◌, ◌++◌, length, take, drop, Ok, Err, refl, sym, ap, ◌∙◌, arith}
use Rattle.std.proofs.lemmas.Bool.{le-ltb, leb-true}
use Rattle.std.proofs.lemmas.List.{drop-append-le, take-append-le, get_or_append_left, length-append, length-drop, length-take-le, take-append-drop, drop_all}
use Rattle.ch11_header.specs.declared.header.Header.{Header}
use Rattle.ch11_header.specs.declared.error.HeaderError.{HeaderError}
use Rattle.ch11_header.specs.HeaderBytes.{word_sum, header_sum}
use Rattle.ch11_header.specs.HeaderReading.{header_in, fields_of, with_lawful_lengths, is_packet_length, has_room, body_start}
use Rattle.ch11_reader.specs.Recording.{Found, body_of, packet_messages, with_rest, packet_at, packets_from, packets_in, ◌>>=◌}
use Rattle.ch11_reader.proofs.Joined.{number_front}
use Rattle.bench_complete.proofs.Sound.{lawful, front}

sum_front : (count : ℕ) (xs r : List ℕ) → 2 * count ≤ length xs → word_sum count (xs ++ r) ≡ word_sum count xs
unfolding word_sum
sum_front zero xs r le = refl
sum_front (suc count) xs r le =
    rw (number_front 0 2 xs r (omega (arith, le)), drop-append-le 2 xs r (omega (arith, le)), sum_front count (drop 2 xs) r (omega (arith, le, length-drop 2 xs))) refl

check_front : (xs r : List ℕ) → 24 ≤ length xs → header_sum (xs ++ r) ≡ header_sum xs
unfolding header_sum
check_front xs r le = rw (sum_front 11 xs r (omega (arith, le))) refl

fields_front : (xs r : List ℕ) → 24 ≤ length xs → fields_of (xs ++ r) ≡ fields_of xs
unfolding fields_of
fields_front xs r le =
    rw (
      number_front 2 2 xs r (omega (arith, le)),
      number_front 4 4 xs r (omega (arith, le)),
      number_front 8 4 xs r (omega (arith, le)),
      number_front 16 6 xs r (omega (arith, le)),
      get_or_append_left xs r 0 12 (omega (arith, le)),
      get_or_append_left xs r 0 13 (omega (arith, le)),
      get_or_append_left xs r 0 14 (omega (arith, le)),
      get_or_append_left xs r 0 15 (omega (arith, le)),
    ) refl

-- the header is read off the first 24 bytes
header_front : (xs r : List ℕ) → 24 ≤ length xs → header_in (xs ++ r) ≡ header_in xs
unfolding header_in
header_front xs r le =
    rw (
      le-ltb (length (xs ++ r)) 24 (omega (arith, le, length-append xs r)),
      le-ltb (length xs) 24 le,
      number_front 0 2 xs r (omega (arith, le)),
      number_front 22 2 xs r (omega (arith, le)),
      check_front xs r le,
      fields_front xs r le,
    ) refl

pub record HasRoom (h : Header) : Type 0 where
  pub least : 24 ≤ h.packet_length
  pub body : body_start h + h.data_length ≤ h.packet_length

both : (a b : Bool) → (a && b) ≡ true → a ≡ true
both true b e = refl
both false b e = cc

has_room_by : (h : Header) → is_packet_length h.packet_length ≡ true → has_room h ≡ true → HasRoom h
has_room_by h l r = record {
  least = leb-true 24 h.packet_length (both (leb 24 h.packet_length) _ l);
  body = leb-true (body_start h + h.data_length) h.packet_length r;
}

room_behind : (g h : Header) (size room : Bool) (e f : HeaderError) → is_packet_length g.packet_length ≡ size → has_room g ≡ room
    → cond (not size) (Err e) (cond (not room) (Err f) (Ok g)) ≡ Ok h → HasRoom h
room_behind g h false room e f l r is = cc
room_behind g h true false e f l r is = cc
room_behind g h true true e f l r is =
    let same : g ≡ h = cc in
    has_room_by h (ap (λ (x : Header). is_packet_length x.packet_length) (sym same) ∙ l) (ap has_room (sym same) ∙ r)

header_room : (bytes : List ℕ) (h : Header) → header_in bytes ≡ Ok h → HasRoom h
unfolding with_lawful_lengths
header_room bytes h is = room_behind (fields_of bytes) h _ _ _ _ refl refl (lawful bytes h is)

-- a packet has room for its header and its body
pub room_of : (bytes : List ℕ) (h : Header) → packet_at bytes ≡ Ok h → HasRoom h
room_of bytes h is = header_room bytes h (front bytes h is).header

body_front : (h : Header) (xs r : List ℕ) → HasRoom h → h.packet_length ≤ length xs → body_of h (xs ++ r) ≡ body_of h xs
body_front h xs r room whole =
    rw (drop-append-le (body_start h) xs r (omega (arith, room.body, whole)))
    (take-append-le h.data_length (drop (body_start h) xs) r (omega (arith, room.body, whole, length-drop (body_start h) xs)))

rest_front : (h : Header) (xs r : List ℕ) → HasRoom h → h.packet_length ≤ length xs → with_rest h (xs ++ r) ≡ with_rest h xs
rest_front h xs r room whole =
    rw (le-ltb (length (xs ++ r)) h.packet_length (omega (arith, whole, length-append xs r)), le-ltb (length xs) h.packet_length whole, body_front h xs r room whole) refl

messages_front : (h : Header) (xs r : List ℕ) → HasRoom h → h.packet_length ≤ length xs → packet_messages h (xs ++ r) ≡ packet_messages h xs
messages_front h xs r room whole = rw (body_front h xs r room whole) refl

-- ---- the bytes of one packet

module _ (bytes : List ℕ) (h : Header) (is : packet_at bytes ≡ Ok h) where
  abbrev pub own : List ℕ
  own = take h.packet_length bytes

  pub own_size : length own ≡ h.packet_length
  own_size = length-take-le h.packet_length bytes (front bytes h is).whole

  whole : own ++ drop h.packet_length bytes ≡ bytes
  whole = take-append-drop h.packet_length bytes

  own_header : header_in own ≡ Ok h
  own_header = sym (header_front own (drop h.packet_length bytes) (omega (arith, (room_of bytes h is).least, own_size))) ∙ ap header_in whole ∙ (front bytes h is).header

  own_rest : with_rest h own ≡ Ok h
  own_rest = sym (rest_front h own (drop h.packet_length bytes) (room_of bytes h is) (omega (arith, own_size))) ∙ ap (with_rest h) whole ∙ (front bytes h is).rest

  pub own_body : body_of h own ≡ body_of h bytes
  own_body = sym (body_front h own (drop h.packet_length bytes) (room_of bytes h is) (omega (arith, own_size))) ∙ ap (body_of h) whole

  pub own_messages : packet_messages h own ≡ packet_messages h bytes
  own_messages = sym (messages_front h own (drop h.packet_length bytes) (room_of bytes h is) (omega (arith, own_size))) ∙ ap (packet_messages h) whole

  pub own_packet : packet_at own ≡ Ok h
  unfolding packet_at
  own_packet = rw own_header own_rest

nothing_behind : (most offset : ℕ) (p : Found) → (packets_from most offset [] >>= λ (others : List Found). Ok (p ∷ others)) ≡ Ok (p ∷ [])
unfolding packets_from
nothing_behind zero offset p = refl
nothing_behind (suc most) offset p = refl

-- bytes that are one packet and no more are a recording of that packet
one_by : (xs : List ℕ) (h : Header) → 0 < length xs → length xs ≡ h.packet_length → packet_at xs ≡ Ok h
    → packets_in xs ≡ Ok (record { offset = 0; header = h; messages = packet_messages h xs } ∷ [])
unfolding packets_from
one_by [] h some size is = absurd (omega arith)
one_by (x ∷ xs) h some size is =
    let none : drop h.packet_length (x ∷ xs) ≡ [] = drop_all h.packet_length (x ∷ xs) (omega (arith, size)) in
    rw (is, none) (nothing_behind (length xs) (0 + h.packet_length) (record { offset = 0; header = h; messages = packet_messages h (x ∷ xs) }))

pub one_packet : (xs : List ℕ) (h : Header) → length xs ≡ h.packet_length → packet_at xs ≡ Ok h → packets_in xs ≡ Ok (record { offset = 0; header = h; messages = packet_messages h xs } ∷ [])
one_packet xs h size is = one_by xs h (let room = room_of xs h is in omega (arith, room.least, size)) size is
