-- The marks of packets as they come from a reader.
use Rattle.std.proofs.Common.{◌≡◌, ℕ, ◌+◌, ◌-◌, ◌<◌, ◌≤◌, Bool, true, false, ◌||◌, ◌&&◌, cond, eqb, List, [], ◌∷◌, ◌++◌, take, drop, reverse, Option, None, Some, Ok, refl, sym, ap, subst, ◌∙◌, append_assoc, arith}
use Rattle.std.proofs.lemmas.List.{append-nil, drop-drop, drop-take, take-take}
use Rattle.ch11_header.specs.declared.header.Header.{Header}
use Rattle.ch11_header.specs.HeaderReading.{body_start}
use Rattle.ch11_reader.specs.declared.packet.Packet.{Packet}
use Rattle.ch11_reader.specs.declared.skip.Skip.{Skip}
use Rattle.ch11_reader.specs.Recording.{Found, body_of, holds_messages, packets_in}
use Rattle.ch11_reader.specs.Indexed.{found_in}
use Rattle.ch11_reader.specs.Listing.{listing, listing_behind}
use Rattle.ch11_reader.specs.Skipping as reader
use Rattle.ch11_reader.proofs.Joined.{front, header_room}
use Rattle.ch11_reader.proofs.Loop.{in_order}
use Rattle.ch11_reader.proofs.Stretches.{in_turn}
use Rattle.ch11_stream.specs.Reading.{IsEnd, IsStep, Reading, at_start, last_found}
use Rattle.ch11_stream.specs.Stretches.{IsNextStretch, IsSkip}
use Rattle.ch11_stream.specs.declared.stretch.Stretch.{Stretch}
use Rattle.ch11_stream.specs.declared.stretch.Stretch.TheVariants as stretches
use Rattle.ch11_stream.specs.Taking.{held}
use Rattle.ch11_stream.proofs.Folding.{all_found}
use Rattle.ch11_stream.proofs.Readings.{IsAmid}
use Rattle.ch11_stream.proofs.Skips.{IsBetween, between_end, between_skipped, between_sound, between_start}
use Rattle.bench_clock.specs.declared.clock.Mark.{Mark}
use Rattle.bench_clock.specs.Clock.{has_time_packets, is_of, is_time, is_unset, last_behind, mark_of, marks_behind, marks_of, told_by, told_in}
use Rattle.bench_clock.specs.Rising.{IsRising, IsWithin}
use Rattle.bench_clock.specs.Sound as sound
use Rattle.bench_clock.specs.declared.told.PacketTime.{PacketTime}
use Rattle.bench_clock.specs.TimeBody.{packet_time}
use Rattle.bench_clock.proofs.Rises.{Rises, all_rise, mark_rises, told_in_within}

-- ---- what a packet tells

-- by its bytes, or by those of the file
pub told_there : (named : Option ℕ) (file : List ℕ) (e : Packet) → told_in named e.header (drop e.offset file) ≡ told_by named file e
told_there named file e = rw (drop-drop (body_start e.header) e.offset file) refl

-- the body of a packet lies in its own bytes
own_body : (h : Header) (bytes : List ℕ) → body_start h + h.data_length ≤ h.packet_length → body_of h (take h.packet_length bytes) ≡ body_of h bytes
own_body h bytes room =
    let whole : body_start h + (h.packet_length - body_start h) ≡ h.packet_length = omega (arith, room) in
    ap (λ (n : ℕ). take h.data_length (drop (body_start h) (take n bytes))) (sym whole)
    ∙ ap (take h.data_length) (drop-take (body_start h) (h.packet_length - body_start h) bytes)
    ∙ take-take h.data_length (h.packet_length - body_start h) (drop (body_start h) bytes) (omega (arith, room))

kept_time : (b : Bool) → cond b true true ≡ true
kept_time true = refl
kept_time false = refl

told_if : (h : Header) (kept bytes : List ℕ) (b mine : Bool) → eqb h.kind 0x11 ≡ b → kept ≡ take (held h) bytes → body_start h + h.data_length ≤ h.packet_length
    → cond (b && mine) (packet_time (body_of h kept)) None ≡ cond (b && mine) (packet_time (body_of h bytes)) None
told_if h kept bytes true false is same room = refl
told_if h kept bytes true true is same room =
    let all : held h ≡ h.packet_length = rw (is, kept_time (holds_messages h)) refl in
    ap (λ (l : List ℕ). packet_time (body_of h l)) (same ∙ ap (λ (n : ℕ). take n bytes) all) ∙ ap packet_time (own_body h bytes room)
told_if h kept bytes false mine is same room = refl

-- the packet that was read tells what that of the file does
pub told_same : (named : Option ℕ) (file : List ℕ) (before now : Reading) (p : Packet) → IsStep before now p → IsAmid file before → told_in named p.header now.kept ≡ told_by named file p
told_same named file before now p s a =
    let r = s.read a.rest a.left in
    let h = p.header in
    let room = (header_room a.rest h (front a.rest h r.packet).header).body in
    let place : a.rest ≡ drop p.offset file = a.going.place ∙ ap (λ (n : ℕ). drop n file) (sym (s.place ∙ a.place)) in
    told_if h now.kept a.rest (eqb h.kind 0x11) (is_of named h) refl r.kept room ∙ ap (told_in named h) place ∙ told_there named file p

-- ---- marks so far

-- marks rise up to a last counter, so that those that rise behind it may follow
pub record IsUpTo (ms : List Mark) (last : Option ℕ) : Type 0 where
  pub on : (rest : List Mark) → Rises last rest → Rises None (ms ++ rest)

pub up_to_none : IsUpTo [] None
up_to_none = record { on = λ rest r. r }

pub up_to_next : (ms : List Mark) (last : Option ℕ) (counter : ℕ) (told : Option PacketTime) → ((t : PacketTime) → told ≡ Some t → IsWithin t) → IsUpTo ms last
    → IsUpTo (ms ++ mark_of last counter told) (last_behind last counter told)
up_to_next ms last counter told small u = record {
  on = λ rest r. rw (append_assoc ms (mark_of last counter told) rest) (u.on (mark_of last counter told ++ rest) (mark_rises last counter told rest small r));
}

pub up_to_rises : (ms : List Mark) (last : Option ℕ) → IsUpTo ms last → IsRising ms
up_to_rises ms last u = all_rise ms (subst (Rises None) (append-nil ms) (u.on [] tt))

-- the marks are those of the packets so far, newest first
pub record IsTold (named : Option ℕ) (file : List ℕ) (ms : List Mark) (last : Option ℕ) (earlier : List Found) : Type 0 where
  pub all : (ps : List Found) → marks_of named file (listing (in_order earlier ps)) ≡ ms ++ marks_behind named file last (listing_behind earlier ps)

pub nothing_told : (named : Option ℕ) (file : List ℕ) → IsTold named file [] None []
nothing_told named file = record { all = λ ps. refl }

pub one_told : (named : Option ℕ) (file : List ℕ) (ms : List Mark) (last : Option ℕ) (told : Option PacketTime) (before now : Reading) (p : Packet) → IsStep before now p → told ≡ told_by named file p → IsTold named file ms last before.earlier
    → IsTold named file (ms ++ mark_of last p.header.counter told) (last_behind last p.header.counter told) now.earlier
one_told named file ms last told before now p s same t = rw (s.entered, same) record {
  all = λ ps.
      let q : Found = last_found now p in
      let l = last_behind last p.header.counter (told_by named file p) in
      t.all (q ∷ ps)
      ∙ ap (λ (e : Packet). ms ++ marks_behind named file last (e ∷ listing_behind (q ∷ before.earlier) ps)) (sym s.listed)
      ∙ sym (append_assoc ms (mark_of last p.header.counter (told_by named file p)) (marks_behind named file l (listing_behind (q ∷ before.earlier) ps)));
}

-- at the end they are all of the file's
pub all_told : (named : Option ℕ) (file : List ℕ) (ms : List Mark) (last : Option ℕ) (now end : Reading) → IsEnd now end → IsAmid file now → IsTold named file ms last now.earlier
    → (packets_in file ≡ Ok (found_in file)) × (ms ≡ marks_of named file (listing (found_in file)))
all_told named file ms last now end e a t =
    let f = all_found file now end e a in
    let order : in_order now.earlier [] ≡ reverse now.earlier = refl in (
      f.0,
      sym (append-nil ms) ∙ sym (t.all []) ∙ ap (λ (ps : List Found). marks_of named file (listing ps)) (order ∙ f.1),
    )

-- ---- whether there are time packets

-- one was among the packets so far, newest first
pub record IsSeen (named : Option ℕ) (any : Bool) (earlier : List Found) : Type 0 where
  pub all : (ps : List Found) → has_time_packets named (listing (in_order earlier ps)) ≡ (any || has_time_packets named (listing_behind earlier ps))

pub nothing_seen : (named : Option ℕ) → IsSeen named false []
nothing_seen named = record { all = λ ps. refl }

or_assoc : (a b c : Bool) → (a || (b || c)) ≡ ((a || b) || c)
or_assoc true b c = refl
or_assoc false b c = refl

or_false : (a : Bool) → (a || false) ≡ a
or_false true = refl
or_false false = refl

pub one_seen : (named : Option ℕ) (any : Bool) (before now : Reading) (p : Packet) → IsStep before now p → IsSeen named any before.earlier → IsSeen named (any || is_time named p.header) now.earlier
one_seen named any before now p s seen = rw s.entered record {
  all = λ ps.
      let q : Found = last_found now p in
      seen.all (q ∷ ps)
      ∙ ap (λ (e : Packet). any || has_time_packets named (e ∷ listing_behind (q ∷ before.earlier) ps)) (sym s.listed)
      ∙ or_assoc any (is_time named p.header) (has_time_packets named (listing_behind (q ∷ before.earlier) ps));
}

pub all_seen : (named : Option ℕ) (file : List ℕ) (any : Bool) (now end : Reading) → IsEnd now end → IsAmid file now → IsSeen named any now.earlier
    → (packets_in file ≡ Ok (found_in file)) × (any ≡ has_time_packets named (listing (found_in file)))
all_seen named file any now end e a seen =
    let f = all_found file now end e a in
    let order : in_order now.earlier [] ≡ reverse now.earlier = refl in (
      f.0,
      sym (or_false any) ∙ sym (seen.all []) ∙ ap (λ (ps : List Found). has_time_packets named (listing ps)) (order ∙ f.1),
    )

-- what is said of time packets and of marks is said of those of a file
pub both_same : (any other : Bool) (ms ns : List Mark) → any ≡ other → ms ≡ ns → (any && is_unset ms) ≡ (other && is_unset ns)
both_same any other ms ns same marks = rw (same, marks) refl

-- ---- what is sound of a file

-- the stretches so far, newest first, are those of a file, and the bytes to come those behind their place in it
pub record IsAmong (file : List ℕ) (now : Reading) : Type 0 where
  pub earlier : List reader.Stretch
  pub between : IsBetween file now earlier
  pub rest : List ℕ
  pub left : now.left ≡ Some rest
  pub place : rest ≡ drop now.offset file

pub among_start : (file : List ℕ) → IsAmong file (at_start (Some file))
among_start file = record { earlier = []; between = between_start file; rest = file; left = refl; place = refl }

-- the bytes behind so many of those to come
behind : (file rest : List ℕ) (offset next size : ℕ) → rest ≡ drop offset file → next ≡ offset + size → drop size rest ≡ drop next file
behind file rest offset next size place moved = ap (drop size) place ∙ drop-drop size offset file ∙ ap (λ (n : ℕ). drop n file) (sym moved)

among_sound : (file : List ℕ) (before now : Reading) (p : Packet) → IsStep before now p → IsAmong file before → IsAmong file now
among_sound file before now p s a = record {
  earlier = reader.Read (last_found now p) ∷ a.earlier;
  between = between_sound file before now a.earlier p s a.between;
  rest = drop p.header.packet_length a.rest;
  left = (s.read a.rest a.left).left;
  place = behind file a.rest before.offset now.offset p.header.packet_length a.place s.moved;
}

among_skipped : (file : List ℕ) (before now : Reading) (k : Skip) → IsSkip before now k → IsAmong file before → IsAmong file now
among_skipped file before now k s a = record {
  earlier = reader.Skipped k ∷ a.earlier;
  between = between_skipped file before now a.earlier k s a.between;
  rest = drop k.length a.rest;
  left = (s.skipped a.rest a.left).left;
  place = behind file a.rest before.offset now.offset k.length a.place s.moved;
}

-- the packet that was read tells what that of the file does
told_among : (named : Option ℕ) (file : List ℕ) (before now : Reading) (p : Packet) → IsStep before now p → IsAmong file before → told_in named p.header now.kept ≡ told_by named file p
told_among named file before now p s a =
    let r = s.read a.rest a.left in
    let h = p.header in
    let room = (header_room a.rest h (front a.rest h r.packet).header).body in
    let place : a.rest ≡ drop p.offset file = a.place ∙ ap (λ (n : ℕ). drop n file) (sym s.place) in
    told_if h now.kept a.rest (eqb h.kind 0x11) (is_of named h) refl r.kept room ∙ ap (told_in named h) place ∙ told_there named file p

-- ---- a stretch more

pub stretch_among : (file : List ℕ) (before now : Reading) (s : Stretch) → IsNextStretch (Ok (Some s)) before now → IsAmong file before → IsAmong file now
stretch_among file before now (stretches.Sound p) s a = among_sound file before now p s a
stretch_among file before now (stretches.Skipped k) s a = among_skipped file before now k s a

pub stretch_rises : (named : Option ℕ) (ms : List Mark) (last : Option ℕ) (s : Stretch) (kept : List ℕ) → IsUpTo ms last → IsUpTo (ms ++ sound.marks_of named last s kept) (sound.last_of named last s kept)
stretch_rises named ms last (stretches.Sound p) kept u = up_to_next ms last p.header.counter (told_in named p.header kept) (λ t is. told_in_within named p.header kept t is) u
stretch_rises named ms last (stretches.Skipped k) kept u = subst (λ (xs : List Mark). IsUpTo xs last) (sym (append-nil ms)) u

pub stretch_seen : (named : Option ℕ) (any : Bool) (before now : Reading) (s : Stretch) → IsNextStretch (Ok (Some s)) before now → IsSeen named any before.earlier → IsSeen named (sound.or_time any named s) now.earlier
stretch_seen named any before now (stretches.Sound p) s seen = one_seen named any before now p s seen
stretch_seen named any before now (stretches.Skipped k) s seen = subst (IsSeen named any) (sym s.same) seen

pub stretch_told : (named : Option ℕ) (file : List ℕ) (ms : List Mark) (last : Option ℕ) (before now : Reading) (s : Stretch) → IsNextStretch (Ok (Some s)) before now → IsAmong file before → IsTold named file ms last before.earlier
    → IsTold named file (ms ++ sound.marks_of named last s now.kept) (sound.last_of named last s now.kept) now.earlier
stretch_told named file ms last before now (stretches.Sound p) s a t = one_told named file ms last (told_in named p.header now.kept) before now p s (told_among named file before now p s a) t
stretch_told named file ms last before now (stretches.Skipped k) s a t =
    subst (λ (xs : List Mark). IsTold named file xs last now.earlier) (sym (append-nil ms)) (subst (IsTold named file ms last) (sym s.same) t)

packets_in_turn : (earlier others : List reader.Stretch) → reader.packets_among (in_turn earlier others) ≡ in_order (reader.packets_among earlier) (reader.packets_among others)
packets_in_turn [] others = refl
packets_in_turn (reader.Read p ∷ earlier) others = packets_in_turn earlier (reader.Read p ∷ others)
packets_in_turn (reader.Skipped s ∷ earlier) others = packets_in_turn earlier (reader.Skipped s ∷ others)

-- at the end all sound packets of the file were read
all_among : (file : List ℕ) (now end : Reading) → IsEnd now end → IsAmong file now → in_order now.earlier [] ≡ reader.packets_read file
all_among file now end e a = sym (
    ap reader.packets_among (between_end file now end a.earlier e a.between)
    ∙ packets_in_turn a.earlier []
    ∙ ap (λ (ps : List Found). in_order ps []) a.between.packets
    )

pub all_sound_told : (named : Option ℕ) (file : List ℕ) (ms : List Mark) (last : Option ℕ) (now end : Reading) → IsEnd now end → IsAmong file now → IsTold named file ms last now.earlier
    → ms ≡ marks_of named file (listing (reader.packets_read file))
all_sound_told named file ms last now end e a t = sym (append-nil ms) ∙ sym (t.all []) ∙ ap (λ (ps : List Found). marks_of named file (listing ps)) (all_among file now end e a)

pub all_sound_seen : (named : Option ℕ) (file : List ℕ) (any : Bool) (now end : Reading) → IsEnd now end → IsAmong file now → IsSeen named any now.earlier → any ≡ has_time_packets named (listing (reader.packets_read file))
all_sound_seen named file any now end e a seen = sym (or_false any) ∙ sym (seen.all []) ∙ ap (λ (ps : List Found). has_time_packets named (listing ps)) (all_among file now end e a)
