-- What is known of the messages of a packet that was read.
use Rattle.std.proofs.Common.{◌≡◌, ℕ, zero, suc, ◌+◌, ◌-◌, ◌%◌, ◌<◌, ◌≤◌, ◌^◌, Bool, true, false, cond, eqb, ltb, List, [], ◌∷◌, length, take, drop, Result, Ok, Err, refl, sym, ap, subst, ◌∙◌, arith}
use Rattle.std.specs.List.{AllByRecursion}
use Rattle.std.proofs.lemmas.Bool.{ltb-false}
use Rattle.byteorder.specs.Numbers.{little_from-lt}
use Rattle.std.proofs.lemmas.List.{get_or-drop, length-drop, length-take, length-take-le}
use Rattle.ch11_header.specs.declared.header.Header.{Header}
use Rattle.ch11_header.specs.HeaderBytes.{number_at}
use Rattle.ch11_f1.specs.declared.error.BodyError.{BodyError}
use Rattle.ch11_f1.specs.declared.error.BodyError.TheVariants.{Odd, End, Short}
use Rattle.ch11_f1.specs.BodyReading.{◌>>=◌, Message, count_in, message_at, message_of_size, messages_at, messages_in, ok_or_none}
use Rattle.ch11_f1.proofs.Loop.{read_count}
use Rattle.ch11_header.specs.HeaderReading.{body_start}
use Rattle.ch11_reader.specs.Recording.{holds_messages, packet_messages}
use Rattle.bench_complete.proofs.Sound.{AreBytes}
use Rattle.bench_cut.specs.Cut.{size_of, sizes_of}
use Rattle.bench_cut.specs.Short.{AreShort}

pub bytes-drop : (n : ℕ) (xs : List ℕ) → AreBytes xs → AreBytes (drop n xs)
bytes-drop n xs small k = omega (arith, get_or-drop n xs k 0, small (n + k))

two_bytes : (xs : List ℕ) → AreBytes xs → number_at 0 2 xs < 2 ^ 16
two_bytes xs small = omega (arith, small 0, small 1)

-- ---- one message

abbrev Read : Type 0
Read = Result (Message × List ℕ) BodyError

abbrev got : Message × List ℕ → Read → Message × List ℕ
got other (Ok x) = x
got other (Err e) = other

-- a message whose numbers fit their bytes, as one that was read
pub record Fits (m : Message) : Type 0 where
  pub stamp : m.stamp < 2 ^ 64
  pub block : m.block < 2 ^ 16
  pub gaps : m.gaps < 2 ^ 16
  pub size : length m.bytes < 2 ^ 16
  pub even : eqb (length m.bytes % 2) 1 ≡ false

-- the message that begins bytes, and what follows it
pub record IsMessage (bytes after : List ℕ) (m : Message) : Type 0 where
  pub size : size_of m + length after ≡ length bytes
  pub fits : AreBytes bytes → Fits m
  pub others : AreBytes bytes → AreBytes after

module _ (bytes after : List ℕ) (m : Message) where
  abbrev read_of : ℕ → Read
  read_of size = Ok (
    record {
      stamp = number_at 0 8 bytes;
      block = number_at 8 2 bytes;
      gaps = number_at 10 2 bytes;
      bytes = take size (drop 14 bytes);
    },
    drop size (drop 14 bytes),
  )

  message_by : (size : ℕ) → size ≡ number_at 12 2 bytes → eqb (size % 2) 1 ≡ false → 14 + size ≤ length bytes → read_of size ≡ Ok (m, after) → IsMessage bytes after m
  message_by size is even fits read =
      let words : take size (drop 14 bytes) ≡ m.bytes = ap (λ (r : Read). (got (m, after) r).0.bytes) read in
      let rest : drop size (drop 14 bytes) ≡ after = ap (λ (r : Read). (got (m, after) r).1) read in
      let behind = length-drop 14 bytes in
      let width : length m.bytes ≡ size = ap length (sym words) ∙ length-take-le size (drop 14 bytes) (omega (arith, fits, behind)) in
      let left : length after ≡ length (drop 14 bytes) - size = ap length (sym rest) ∙ length-drop size (drop 14 bytes) in
      record {
        size = omega (arith, width, left, behind, fits);
        fits = λ small. record {
          stamp = subst (λ (n : ℕ). n < 2 ^ 64) (ap (λ (r : Read). (got (m, after) r).0.stamp) read) (little_from-lt 0 8 bytes small);
          block = subst (λ (n : ℕ). n < 2 ^ 16) (ap (λ (r : Read). (got (m, after) r).0.block) read) (two_bytes (drop 8 bytes) (bytes-drop 8 bytes small));
          gaps = subst (λ (n : ℕ). n < 2 ^ 16) (ap (λ (r : Read). (got (m, after) r).0.gaps) read) (two_bytes (drop 10 bytes) (bytes-drop 10 bytes small));
          size = omega (arith, width, is, two_bytes (drop 12 bytes) (bytes-drop 12 bytes small));
          even = ap (λ (n : ℕ). eqb (n % 2) 1) width ∙ even;
        };
        others = λ small. subst AreBytes rest (bytes-drop size (drop 14 bytes) (bytes-drop 14 bytes small));
      }

  by_end : (size : ℕ) (few : Bool) → size ≡ number_at 12 2 bytes → eqb (size % 2) 1 ≡ false → ltb (length bytes) (14 + size) ≡ few → cond few (Err End) (read_of size) ≡ Ok (m, after) → IsMessage bytes after m
  by_end size true is even e read = cc
  by_end size false is even e read = message_by size is even (ltb-false (length bytes) (14 + size) e) read

  by_odd : (size : ℕ) (odd : Bool) → size ≡ number_at 12 2 bytes → eqb (size % 2) 1 ≡ odd → cond odd (Err Odd) (cond (ltb (length bytes) (14 + size)) (Err End) (read_of size)) ≡ Ok (m, after) → IsMessage bytes after m
  by_odd size true is even read = cc
  by_odd size false is even read = by_end size (ltb (length bytes) (14 + size)) is even refl read

  by_head : (few : Bool) → cond few (Err End) (message_of_size (number_at 12 2 bytes) bytes) ≡ Ok (m, after) → IsMessage bytes after m
  by_head true read = cc
  by_head false read = by_odd (number_at 12 2 bytes) (eqb (number_at 12 2 bytes % 2) 1) refl refl read

  message_is : message_at bytes ≡ Ok (m, after) → IsMessage bytes after m
  unfolding message_at
  message_is read = by_head (ltb (length bytes) 14) read

-- ---- all of a body

pub record AreMessages (bytes : List ℕ) (ms : List Message) : Type 0 where
  pub size : sizes_of ms ≤ length bytes
  pub fits : AreBytes bytes → AllByRecursion Fits ms

none_of : (bytes : List ℕ) (ms : List Message) → ms ≡ [] → AreMessages bytes ms
none_of bytes ms e = subst (AreMessages bytes) (sym e) (record { size = omega arith; fits = λ small. tt })

split : (m : Message) (read : Result (List Message) BodyError) (ms : List Message) → (read >>= λ others. Ok (m ∷ others)) ≡ Ok ms → (read ≡ Ok (ok_or_none read)) × (ms ≡ m ∷ ok_or_none read)
split m (Ok x) ms h = (refl, cc)
split m (Err e) ms h = absurd cc

at_first : (count : ℕ) (first : Read) (bytes : List ℕ) (ms : List Message) → message_at bytes ≡ first → ((rest : List ℕ) (others : List Message) → messages_at count rest ≡ Ok others → AreMessages rest others)
    → (first >>= λ f. messages_at count f.1 >>= λ others. Ok (f.0 ∷ others)) ≡ Ok ms → AreMessages bytes ms
at_first count (Err e) bytes ms at shorter h = absurd cc
at_first count (Ok f) bytes ms at shorter h =
    let both = split f.0 (messages_at count f.1) ms h in
    let one = message_is bytes f.1 f.0 at in
    let others = shorter f.1 (ok_or_none (messages_at count f.1)) both.0 in
    subst (AreMessages bytes) (sym both.1) (record { size = omega (arith, one.size, others.size); fits = λ small. (one.fits small, others.fits (one.others small)) })

messages_are : (count : ℕ) (bytes : List ℕ) (ms : List Message) → messages_at count bytes ≡ Ok ms → AreMessages bytes ms
unfolding messages_at
messages_are zero bytes ms h = none_of bytes ms (let e : ms ≡ [] = cc in e)
messages_are (suc count) bytes ms h = at_first count (message_at bytes) bytes ms refl (λ rest others g. messages_are count rest others g) h

-- what is known of the messages of a packet: where there are any, they fit its body
pub record PacketFacts (h : Header) (bytes : List ℕ) (ms : List Message) : Type 0 where
  pub size : 0 < length ms → 4 + sizes_of ms ≤ h.data_length
  pub few : length ms < 2 ^ 24
  pub fits : AreBytes bytes → AllByRecursion Fits ms

no_messages : (h : Header) (bytes : List ℕ) → PacketFacts h bytes []
no_messages h bytes = record { size = λ some. absurd (omega (arith, some)); few = omega arith; fits = λ small. tt }

pub are_short : (ms : List Message) → AllByRecursion Fits ms → AreShort ms
are_short [] all = tt
are_short (m ∷ ms) all = (all.0.size, are_short ms all.1)

pub bytes-take : (n : ℕ) (xs : List ℕ) → AreBytes xs → AreBytes (take n xs)
bytes-take zero xs small k = omega arith
bytes-take (suc n) [] small k = omega arith
bytes-take (suc n) (x ∷ xs) small zero = small zero
bytes-take (suc n) (x ∷ xs) small (suc k) = bytes-take n xs (λ (j : ℕ). small (suc j)) k

module _ (h : Header) (bytes : List ℕ) where
  abbrev body : List ℕ
  body = take h.data_length (drop (body_start h) bytes)

  body_facts : (ms : List Message) → 4 ≤ length body → messages_at (count_in body) (drop 4 body) ≡ Ok ms → PacketFacts h bytes ms
  body_facts ms long is =
      let are = messages_are (count_in body) (drop 4 body) ms is in
      let most = length-take h.data_length (drop (body_start h) bytes) in
      let count : length ms ≡ number_at 0 4 body % 2 ^ 24 = read_count (count_in body) (drop 4 body) ms is in
      record {
        size = λ some. omega (arith, are.size, length-drop 4 body, long, most);
        few = omega (arith, count);
        fits = λ small. are.fits (bytes-drop 4 body (bytes-take h.data_length (drop (body_start h) bytes) (bytes-drop (body_start h) bytes small)));
      }

  by_length : (short : Bool) (ms : List Message) → ltb (length body) 4 ≡ short → cond short (Err Short) (messages_at (count_in body) (drop 4 body)) ≡ Ok ms → PacketFacts h bytes ms
  by_length true ms e is = cc
  by_length false ms e is = body_facts ms (ltb-false (length body) 4 e) is

  in_body : (ms : List Message) → messages_in body ≡ Ok ms → PacketFacts h bytes ms
  unfolding messages_in
  in_body ms is = by_length (ltb (length body) 4) ms refl is

  by_read : (read : Result (List Message) BodyError) (ms : List Message) → messages_in body ≡ read → ms ≡ ok_or_none read → PacketFacts h bytes ms
  by_read (Ok xs) ms is e = subst (PacketFacts h bytes) (sym e) (in_body xs is)
  by_read (Err f) ms is e = subst (PacketFacts h bytes) (sym e) (no_messages h bytes)

  by_kind : (holds : Bool) (ms : List Message) → ms ≡ cond holds (ok_or_none (messages_in body)) [] → PacketFacts h bytes ms
  by_kind true ms e = by_read (messages_in body) ms refl e
  by_kind false ms e = subst (PacketFacts h bytes) (sym e) (no_messages h bytes)

  pub packet_facts : (ms : List Message) → ms ≡ packet_messages h bytes → PacketFacts h bytes ms
  packet_facts ms e = by_kind (holds_messages h) ms e
