-- The packet that begins the bytes to come, judged by those that are ready.
use Rattle.std.proofs.Common.{◌≡◌, ℕ, ◌+◌, ◌<◌, ◌≤◌, Bool, true, false, List, ◌++◌, length, drop, Option, None, Some, Ok, Err, take, cond, eqb, refl, sym, ap, ◌∙◌, arith}
use Rattle.std.proofs.lemmas.Bool.{le-ltb, lt-ltb}
use Rattle.std.proofs.lemmas.List.{append-nil, drop-append-le, length-append, take-append-le}
use Rattle.std.specs.Io.KnownBytes.{Keeps, prepend_known}
use Rattle.ch11_header.specs.declared.error.HeaderError.{HeaderError}
use Rattle.ch11_header.specs.declared.header.Header.{Header}
use Rattle.ch11_header.specs.HeaderReading.{body_start, header_in}
use Rattle.ch11_reader.specs.declared.error.PacketFault.{PacketFault}
use Rattle.ch11_reader.specs.declared.error.PacketFault.TheVariants as faults
use Rattle.ch11_reader.specs.declared.packet.Checked.{Checked}
use Rattle.ch11_reader.specs.Recording.{holds_messages, located, packet_messages, packet_at}
use Rattle.ch11_reader.proofs.Joined.{HasRoom, front, header_front, header_long, messages_front, packet_front, rest_front}
use Rattle.ch11_stream.specs.declared.fault.StreamFault.TheVariants.{Refused}
use Rattle.ch11_stream.specs.Feeding.{IsFilled, IsPassed}
use Rattle.ch11_stream.specs.Holding.{is_kept}
use Rattle.ch11_stream.specs.Taking.{IsFaultAt, IsNextHeader, IsTaken, held}
use Rattle.ch11_stream.proofs.Feeding.{IsBoth, at_end, both_of}

-- ---- known bytes

pub keeps_known : (a b : Option (List ℕ)) (bytes : List ℕ) → Keeps a b → a ≡ Some bytes → b ≡ Some bytes
keeps_known None b bytes k is = absurd cc
keeps_known (Some xs) None bytes k is = absurd k
keeps_known (Some xs) (Some ys) bytes k is = let same : xs ≡ bytes = cc in ap Some (k ∙ same)

-- known bytes begin with those that are ready
filled_both : (size : ℕ) (left leaves : Option (List ℕ)) (before after bytes : List ℕ) (there : Bool) → IsFilled size left leaves before after there → prepend_known before left ≡ Some bytes → IsBoth after leaves bytes
filled_both size left leaves before after bytes there f is = both_of after leaves bytes (keeps_known (prepend_known before left) (prepend_known after leaves) bytes f.kept is)

-- all bytes are ready where there are too few
all_ready : (size : ℕ) (left leaves : Option (List ℕ)) (before after bytes : List ℕ) (there : Bool) → there ≡ false → IsFilled size left leaves before after there → prepend_known before left ≡ Some bytes → bytes ≡ after
all_ready size left leaves before after bytes there none f is =
    let b = filled_both size left leaves before after bytes there f is in
    sym (sym (append-nil after) ∙ ap (λ (l : List ℕ). after ++ l) (sym (at_end leaves b.others (f.few none).1 b.known)) ∙ b.all)

-- the header is judged by the bytes that are ready
pub header_seen : (left leaves : Option (List ℕ)) (before after bytes : List ℕ) (there : Bool) → IsFilled 24 left leaves before after there → prepend_known before left ≡ Some bytes → header_in bytes ≡ header_in after
header_seen left leaves before after bytes true f is =
    let b = filled_both 24 left leaves before after bytes true f is in
    ap header_in (sym b.all) ∙ header_front after b.others (f.enough refl)
header_seen left leaves before after bytes false f is = ap header_in (all_ready 24 left leaves before after bytes false refl f is)

-- ---- faults

header_fault : (offset : ℕ) (bytes : List ℕ) (e : HeaderError) → header_in bytes ≡ Err e → located offset (packet_at bytes) ≡ Err (record { offset = offset; fault = faults.Header e })
unfolding packet_at
header_fault offset bytes e is = rw is refl

end_fault : (offset : ℕ) (bytes : List ℕ) (h : Header) → header_in bytes ≡ Ok h → length bytes < h.packet_length → located offset (packet_at bytes) ≡ Err (record { offset = offset; fault = faults.End })
unfolding packet_at
end_fault offset bytes h is short = rw (is, lt-ltb (length bytes) h.packet_length short) refl

-- no header stands there
pub no_header : (offset : ℕ) (left leaves : Option (List ℕ)) (before after : List ℕ) (there : Bool) (e : HeaderError) → IsFilled 24 left leaves before after there → 0 < length after → header_in after ≡ Err e
    → IsFaultAt offset (prepend_known before left) (Refused (record { offset = offset; fault = faults.Header e }))
no_header offset left leaves before after there e f some is bytes known =
    let b = filled_both 24 left leaves before after bytes there f known in
    (omega (arith, some, ap length b.all, length-append after b.others), header_fault offset bytes e (header_seen left leaves before after bytes there f known ∙ is))

pub next_is : (leaves : Option (List ℕ)) (after : List ℕ) (h : Header) → 24 ≤ h.packet_length → body_start h + h.data_length ≤ h.packet_length → header_in after ≡ Ok h → IsNextHeader (prepend_known after leaves) h
next_is leaves after h long room is = record {
  long = long;
  room = room;
  known = λ bytes known.
      let b = both_of after leaves bytes known in
      ap header_in (sym b.all) ∙ header_front after b.others (header_long after h is) ∙ is;
}

-- the bytes end before the packet does
pub ends_early : (offset : ℕ) (coming : Option (List ℕ)) (h : Header) → IsNextHeader coming h → ((bytes : List ℕ) → coming ≡ Some bytes → length bytes < h.packet_length)
    → IsFaultAt offset coming (Refused (record { offset = offset; fault = faults.End }))
ends_early offset coming h next short bytes known =
    let is = next.known bytes known in
    (omega (arith, header_long bytes h is), end_fault offset bytes h is (short bytes known))

pub filled_short : (left leaves : Option (List ℕ)) (before after : List ℕ) (there : Bool) (h : Header) → there ≡ false → IsFilled h.packet_length left leaves before after there
    → (bytes : List ℕ) → prepend_known before left ≡ Some bytes → length bytes < h.packet_length
filled_short left leaves before after there h none f bytes known = rw (all_ready h.packet_length left leaves before after bytes there none f known) (f.few none).0

-- ---- a packet of another type

holds_none_if : (b other : Bool) → cond b true other ≡ false → b ≡ false
holds_none_if true other is = absurd cc
holds_none_if false other is = refl

-- a packet whose bytes are not kept holds no messages
holds_none : (h : Header) → is_kept h ≡ false → holds_messages h ≡ false
holds_none h is = holds_none_if (holds_messages h) (eqb h.kind 0x11) is

other_is : (bytes : List ℕ) (h : Header) → header_in bytes ≡ Ok h → h.packet_length ≤ length bytes → holds_messages h ≡ false → packet_at bytes ≡ Ok h
unfolding packet_at
other_is bytes h is whole other = rw (is, le-ltb (length bytes) h.packet_length whole, other) refl

pub other_taken : (left leaves : Option (List ℕ)) (before after : List ℕ) (there : Bool) (h : Header) → there ≡ true → is_kept h ≡ false → IsNextHeader (prepend_known before left) h
    → IsPassed h.packet_length left leaves before after there → IsTaken (prepend_known before left) leaves after (record { header = h; count = 0 })
other_taken left leaves before after there h all other next p = record {
  count = rw (holds_none h other) refl;
  few = omega arith;
  whole = rw other (omega arith);
  room = next.room;
  packet = λ bytes known. other_is bytes h (next.known bytes known) (p.enough all bytes known).0 (holds_none h other);
  messages = λ bytes known. rw (holds_none h other) refl;
  kept = λ bytes known. rw other refl;
  behind = λ bytes known. rw other (p.enough all bytes known).1;
}

-- ---- a packet whose bytes are kept

pub held_most : (h : Header) (b : Bool) → is_kept h ≡ b → held h ≤ h.packet_length
held_most h true is = rw is (omega arith)
held_most h false is = rw is (omega arith)

-- a packet is judged by its own bytes
packet_same : (ready others : List ℕ) (h : Header) → header_in (ready ++ others) ≡ Ok h → HasRoom h → h.packet_length ≤ length ready → packet_at (ready ++ others) ≡ packet_at ready
unfolding packet_at
packet_same ready others h is room whole =
    let own : header_in ready ≡ Ok h = sym (header_front ready others (omega (arith, room.least, whole))) ∙ is in
    rw (is, own) (rest_front h ready others room whole)

pub body_fault : (offset : ℕ) (left leaves : Option (List ℕ)) (before after : List ℕ) (there : Bool) (h : Header) (f : PacketFault) → there ≡ true → IsNextHeader (prepend_known before left) h → IsFilled h.packet_length left leaves before after there → packet_at after ≡ Err f
    → IsFaultAt offset (prepend_known before left) (Refused (record { offset = offset; fault = f }))
body_fault offset left leaves before after there h f all next filled is bytes known =
    let b = filled_both h.packet_length left leaves before after bytes there filled known in
    let header = next.known bytes known in
    let room : HasRoom h = record { least = next.long; body = next.room } in
    let same : packet_at bytes ≡ Err f = ap packet_at (sym b.all) ∙ packet_same after b.others h (ap header_in b.all ∙ header) room (filled.enough all) ∙ is in
    (omega (arith, header_long bytes h header), ap (located offset) same)

pub kept_taken : (left leaves : Option (List ℕ)) (before after : List ℕ) (there : Bool) (h : Header) (c : Checked) → is_kept h ≡ true → IsNextHeader (prepend_known before left) h → IsFilled h.packet_length left leaves before after there
    → packet_at after ≡ Ok c.header → c.count ≡ length (packet_messages c.header after) → c.count ≤ c.header.packet_length → 24 ≤ c.header.packet_length → c.header.packet_length ≤ length after → body_start c.header + c.header.data_length ≤ c.header.packet_length
    → IsTaken (prepend_known before left) leaves after c
kept_taken left leaves before after there h c holds next filled is count few long whole room = record {
  count = count;
  few = few;
  whole = omega (arith, whole, held_most c.header (is_kept c.header) refl);
  room = room;
  packet = packet;
  messages = λ bytes known.
      let b = both bytes known in
      sym (messages_front c.header after b.others (record { least = long; body = room }) whole) ∙ ap (packet_messages c.header) b.all;
  kept = λ bytes known.
      let b = both bytes known in
      rw (all bytes known) (sym (take-append-le c.header.packet_length after b.others whole) ∙ ap (take c.header.packet_length) b.all);
  behind = λ bytes known.
      let b = both bytes known in
      rw (all bytes known, b.known) (ap Some (sym (drop-append-le c.header.packet_length after b.others whole) ∙ ap (drop c.header.packet_length) b.all));
}
  where
    both : (bytes : List ℕ) → prepend_known before left ≡ Some bytes → IsBoth after leaves bytes
    both bytes known = filled_both h.packet_length left leaves before after bytes there filled known

    packet : (bytes : List ℕ) → prepend_known before left ≡ Some bytes → packet_at bytes ≡ Ok c.header
    packet bytes known = let b = both bytes known in ap packet_at (sym b.all) ∙ packet_front after b.others c.header is

    all : (bytes : List ℕ) → prepend_known before left ≡ Some bytes → is_kept c.header ≡ true
    all bytes known =
        let one : Ok c.header ≡ Ok h = sym (front bytes c.header (packet bytes known)).header ∙ next.known bytes known in
        let same : c.header ≡ h = cc in
        ap is_kept same ∙ holds

-- ---- bytes to come that were kept
