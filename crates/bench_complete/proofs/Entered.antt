-- What is kept of the packets so far.
use Rattle.std.proofs.Common.{◌≡◌, ℕ, ◌+◌, ◌<◌, ◌≤◌, ◌^◌, Bool, true, false, cond, eqb, ◌&&◌, ◌||◌, List, [], ◌∷◌, ◌++◌, take, drop, reverse, Option, Some, Ok, refl, sym, ap, subst, ◌∙◌, append_assoc, arith}
use Rattle.std.proofs.Math.Bool.{or-false, or_assoc}
use Rattle.std.proofs.lemmas.List.{append-nil}
use Rattle.ch11_header.specs.declared.header.Header.{Header}
use Rattle.ch11_reader.specs.declared.packet.Packet.{Packet}
use Rattle.ch11_reader.specs.declared.skip.Skip.{Skip}
use Rattle.ch11_reader.specs.Indexed.{found_in}
use Rattle.ch11_reader.specs.Recording.{Found, body_of, holds_messages, packet_at, packets_in}
use Rattle.ch11_reader.specs.Skipping as reader
use Rattle.ch11_reader.proofs.Loop.{in_order}
use Rattle.ch11_reader.proofs.Stretches.{in_turn}
use Rattle.ch11_stream.specs.Reading.{IsEnd, IsStep, Reading, at_start, last_found}
use Rattle.ch11_stream.specs.Stretches.{IsNextStretch, IsSkip}
use Rattle.ch11_stream.specs.Taking.{held}
use Rattle.ch11_stream.specs.declared.stretch.Stretch.{Stretch}
use Rattle.ch11_stream.specs.declared.stretch.Stretch.TheVariants.{Sound, Skipped}
use Rattle.ch11_stream.proofs.Folding.{all_found, one_behind}
use Rattle.ch11_stream.proofs.Readings.{IsAmid}
use Rattle.ch11_stream.proofs.Skips.{IsBetween, between_end, between_skipped, between_sound, between_start}
use Rattle.bench_clock.specs.TimeBody.{is_time_body}
use Rattle.bench_clock.proofs.Streamed.{IsAmong}
use Rattle.bench_complete.specs.declared.listing.Listed.{Listed}
use Rattle.bench_complete.specs.declared.placed.Placed.{Placed}
use Rattle.bench_complete.specs.Judging.{has_time, tells_time, tells_time_by}
use Rattle.bench_complete.specs.Listing.{AreSmall, IsListed, IsSmallStretch, placed, places_of, places_with, skips_with, timed_with}
use Rattle.bench_complete.proofs.Alone.{own_body}

-- ---- one packet more

small_more : (es : List Placed) (e : Placed) → AreSmall es → e.header.counter < 2 ^ 48 → AreSmall (es ++ (e ∷ []))
small_more [] e all small = (small, tt)
small_more (x ∷ es) e all small = (all.0, small_more es e all.1 small)

pub small_on : (es now : List Placed) (e : Placed) → now ≡ es ++ (e ∷ []) → AreSmall es → e.header.counter < 2 ^ 48 → AreSmall now
small_on es now e is all small = subst AreSmall (sym is) (small_more es e all small)

places_more : (ps : List Found) (q : Found) → places_of (ps ++ (q ∷ [])) ≡ places_of ps ++ (record { offset = q.offset; header = q.header } ∷ [])
places_more [] q = refl
places_more (p ∷ ps) q = ap (λ (l : List Placed). record { offset = p.offset; header = p.header } ∷ l) (places_more ps q)

time_more : (file : List ℕ) (ps : List Found) (q : Found) → has_time file (ps ++ (q ∷ [])) ≡ (has_time file ps || tells_time file q.offset q.header)
time_more file [] q = or-false (tells_time file q.offset q.header)
time_more file (p ∷ ps) q =
    ap (λ (b : Bool). tells_time file p.offset p.header || b) (time_more file ps q) ∙ sym (or_assoc (tells_time file p.offset p.header) (has_time file ps) (tells_time file q.offset q.header))

-- the places of the packets so far, the newest of which is the one that was read last
pub places_on : (es now : List Placed) (before after : Reading) (p : Packet) → IsStep before after p → es ≡ places_of (reverse before.earlier) → now ≡ es ++ (placed p ∷ []) → now ≡ places_of (reverse after.earlier)
places_on es now before after p s are is =
    is ∙ ap (λ (l : List Placed). l ++ (placed p ∷ [])) are ∙ sym (places_more (reverse before.earlier) (last_found after p))
    ∙ ap places_of (sym (ap reverse s.entered ∙ one_behind (last_found after p) before.earlier))

timed_on : (file : List ℕ) (was now tells : Bool) (before after : Reading) (p : Packet) → IsStep before after p → was ≡ has_time file (reverse before.earlier) → tells ≡ tells_time file p.offset p.header
    → now ≡ (was || tells) → now ≡ has_time file (reverse after.earlier)
timed_on file was now tells before after p s are same is =
    is ∙ ap (λ (b : Bool). b || tells) are ∙ ap (λ (b : Bool). has_time file (reverse before.earlier) || b) same ∙ sym (time_more file (reverse before.earlier) (last_found after p))
    ∙ ap (has_time file) (sym (ap reverse s.entered ∙ one_behind (last_found after p) before.earlier))

-- ---- what a packet tells by the bytes that are kept of it

kept_time : (b : Bool) → cond b true true ≡ true
kept_time true = refl
kept_time false = refl

tells_if : (h : Header) (kept bytes : List ℕ) (b : Bool) → packet_at bytes ≡ Ok h → eqb h.kind 0x11 ≡ b → kept ≡ take (held h) bytes → (b && is_time_body (body_of h kept)) ≡ (b && is_time_body (body_of h bytes))
tells_if h kept bytes false at is same = refl
tells_if h kept bytes true at is same =
    let all : held h ≡ h.packet_length = rw (is, kept_time (holds_messages h)) refl in
    ap (λ (l : List ℕ). is_time_body (body_of h l)) (same ∙ ap (λ (n : ℕ). take n bytes) all) ∙ ap is_time_body (own_body bytes h at)

tells_same : (file rest : List ℕ) (before now : Reading) (p : Packet) → IsStep before now p → before.left ≡ Some rest → rest ≡ drop p.offset file → tells_time_by p.header now.kept ≡ tells_time file p.offset p.header
tells_same file rest before now p s left place =
    let r = s.read rest left in
    tells_if p.header now.kept rest (eqb p.header.kind 0x11) r.packet refl r.kept ∙ ap (tells_time_by p.header) place

-- ---- of a recording that is read whole

pub timed_amid : (file : List ℕ) (was now : Bool) (kept : List ℕ) (before after : Reading) (p : Packet) → IsStep before after p → IsAmid file before → kept ≡ after.kept
    → was ≡ has_time file (reverse before.earlier) → now ≡ (was || tells_time_by p.header kept) → now ≡ has_time file (reverse after.earlier)
timed_amid file was now kept before after p s a own are is =
    let place : a.rest ≡ drop p.offset file = a.going.place ∙ ap (λ (n : ℕ). drop n file) (sym (s.place ∙ a.place)) in
    timed_on file was now (tells_time_by p.header kept) before after p s are (ap (tells_time_by p.header) own ∙ tells_same file a.rest before after p s a.left place) is

pub all_listed : (file : List ℕ) (l : Listed) (now end : Reading) → IsEnd now end → IsAmid file now → l.packets.items ≡ places_of (reverse now.earlier) → l.timed ≡ has_time file (reverse now.earlier)
    → (packets_in file ≡ Ok (found_in file)) × IsListed file (found_in file) l
all_listed file l now end e a places timed =
    let all = all_found file now end e a in
    (all.0, record { places = places ∙ ap places_of all.1; timed = timed ∙ ap (has_time file) all.1 })

-- ---- of one that may be damaged

pub small_with : (es now : List Placed) (s : Stretch) → now ≡ places_with es s → AreSmall es → IsSmallStretch s → AreSmall now
small_with es now (Sound p) is all small = small_on es now (placed p) is all small
small_with es now (Skipped k) is all small = subst AreSmall (sym is) all

pub places_among : (es now : List Placed) (before after : Reading) (s : Stretch) → IsNextStretch (Ok (Some s)) before after → es ≡ places_of (reverse before.earlier) → now ≡ places_with es s
    → now ≡ places_of (reverse after.earlier)
places_among es now before after (Sound p) s are is = places_on es now before after p s are is
places_among es now before after (Skipped k) s are is = is ∙ are ∙ ap (λ (ps : List Found). places_of (reverse ps)) (sym s.same)

pub timed_among : (file : List ℕ) (was now : Bool) (kept : List ℕ) (before after : Reading) (s : Stretch) → IsNextStretch (Ok (Some s)) before after → IsAmong file before → kept ≡ after.kept
    → was ≡ has_time file (reverse before.earlier) → now ≡ timed_with was s kept → now ≡ has_time file (reverse after.earlier)
timed_among file was now kept before after (Sound p) s a own are is =
    let place : a.rest ≡ drop p.offset file = a.place ∙ ap (λ (n : ℕ). drop n file) (sym s.place) in
    timed_on file was now (tells_time_by p.header kept) before after p s are (ap (tells_time_by p.header) own ∙ tells_same file a.rest before after p s a.left place) is
timed_among file was now kept before after (Skipped k) s a own are is = is ∙ are ∙ ap (λ (ps : List Found). has_time file (reverse ps)) (sym s.same)

-- the stretches so far, newest first, and the skips among them
pub record IsSkipping (file : List ℕ) (skips : List Skip) (now : Reading) : Type 0 where
  pub earlier : List reader.Stretch
  pub between : IsBetween file now earlier
  pub skipped : (others : List reader.Stretch) → reader.skips_among (in_turn earlier others) ≡ skips ++ reader.skips_among others

pub skipping_start : (file : List ℕ) → IsSkipping file [] (at_start (Some file))
skipping_start file = record { earlier = []; between = between_start file; skipped = λ others. refl }

pub skipping_on : (file : List ℕ) (skips now : List Skip) (before after : Reading) (s : Stretch) → IsNextStretch (Ok (Some s)) before after → IsSkipping file skips before → now ≡ skips_with skips s → IsSkipping file now after
skipping_on file skips now before after (Sound p) s k is = subst (λ (l : List Skip). IsSkipping file l after) (sym is) (record {
  earlier = reader.Read (last_found after p) ∷ k.earlier;
  between = between_sound file before after k.earlier p s k.between;
  skipped = λ others. k.skipped (reader.Read (last_found after p) ∷ others);
})
skipping_on file skips now before after (Skipped x) s k is = subst (λ (l : List Skip). IsSkipping file l after) (sym is) (record {
  earlier = reader.Skipped x ∷ k.earlier;
  between = between_skipped file before after k.earlier x s k.between;
  skipped = λ others. k.skipped (reader.Skipped x ∷ others) ∙ sym (append_assoc skips (x ∷ []) (reader.skips_among others));
})

packets_in_turn : (earlier others : List reader.Stretch) → reader.packets_among (in_turn earlier others) ≡ in_order (reader.packets_among earlier) (reader.packets_among others)
packets_in_turn [] others = refl
packets_in_turn (reader.Read p ∷ earlier) others = packets_in_turn earlier (reader.Read p ∷ others)
packets_in_turn (reader.Skipped s ∷ earlier) others = packets_in_turn earlier (reader.Skipped s ∷ others)

sound_found : (file : List ℕ) (skips : List Skip) (now end : Reading) → IsEnd now end → IsSkipping file skips now → reverse now.earlier ≡ reader.packets_read file
sound_found file skips now end e k =
    let order : in_order now.earlier [] ≡ reverse now.earlier = refl in
    sym order ∙ sym (ap reader.packets_among (between_end file now end k.earlier e k.between) ∙ packets_in_turn k.earlier [] ∙ ap (λ (ps : List Found). in_order ps []) k.between.packets)

pub all_sound : (file : List ℕ) (skips : List Skip) (l : Listed) (now end : Reading) → IsEnd now end → IsSkipping file skips now → l.packets.items ≡ places_of (reverse now.earlier) → l.timed ≡ has_time file (reverse now.earlier)
    → IsListed file (reader.packets_read file) l
all_sound file skips l now end e k places timed =
    let all = sound_found file skips now end e k in
    record { places = places ∙ ap places_of all; timed = timed ∙ ap (has_time file) all }

pub all_skips : (file : List ℕ) (skips : List Skip) (now end : Reading) → IsEnd now end → IsSkipping file skips now → skips ≡ reader.skips_in file
all_skips file skips now end e k = sym (ap reader.skips_among (between_end file now end k.earlier e k.between) ∙ k.skipped [] ∙ append-nil skips)
