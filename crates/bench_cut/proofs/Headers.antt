-- The headers of packets that go over are lawful.
use Rattle.std.proofs.Common.{◌≡◌, ℕ, zero, suc, ◌+◌, ◌-◌, ◌%◌, ◌<◌, ◌≤◌, ◌^◌, ◌⊎◌, inl, inr, Bool, true, false, not, cond, ltb, leb, ◌&&◌, List, length, drop, Ok, Err, refl, sym, ap, subst, ◌∙◌, arith}
use Rattle.std.specs.Prelude.{bit_or}
use Rattle.std.proofs.lemmas.Bool.{eq-eqb, le-leb, leb-true, ltb-false, ltb-true}
use Rattle.std.proofs.Math.Nat.{mod-lt}
use Rattle.byteorder.specs.Numbers.{little_from-lt}
use Rattle.ch11_f1.specs.BodyReading.{Message}
use Rattle.ch11_header.specs.declared.header.Header.{Header}
use Rattle.ch11_header.specs.declared.error.HeaderError.{HeaderError}
use Rattle.ch11_header.specs.declared.error.HeaderError.TheVariants.{DataLength, PacketLength}
use Rattle.ch11_header.specs.HeaderBytes.{Fits}
use Rattle.ch11_header.specs.HeaderReading.{body_start, fields_of, has_room, header_in, is_packet_length, with_lawful_lengths}
use Rattle.ch11_layout.specs.Stamps.{kind_of}
use Rattle.ch11_layout.specs.declared.stamps.StampKind.{StampKind}
use Rattle.ch11_layout.specs.declared.stamps.StampKind.TheVariants.{Counter, TimeOfDay, Unknown}
use Rattle.bench_complete.specs.SetupRecord.{filler_for}
use Rattle.bench_complete.proofs.Sound.{AreBytes, lawful}
use Rattle.bench_cut.specs.Cut.{counter_by, first_stamp, flags_with, header_with, sizes_of}
use Rattle.bench_cut.proofs.Facts.{bytes-drop}

-- ---- flags, by a table of all of them

abbrev all_below : ℕ → (ℕ → Bool) → Bool
all_below zero test = true
all_below (suc n) test = test n && all_below n test

both : (a b : Bool) → (a && b) ≡ true → (a ≡ true) × (b ≡ true)
both true b e = (refl, e)
both false b e = absurd cc

below_all : (n : ℕ) (test : ℕ → Bool) → all_below n test ≡ true → (k : ℕ) → k < n → test k ≡ true
below_all zero test all k lt = absurd (omega (arith, lt))
below_all (suc n) test all k lt =
    let parts = both (test n) (all_below n test) all in
    let where_it_is : (k < n) ⊎ (k ≡ n) = less_or_same k n lt in
    elim where_it_is [ inl less ↦ below_all n test parts.1 k less | inr same ↦ subst (λ (j : ℕ). test j ≡ true) (sym same) parts.0 ]
  where
    less_or_same : (k n : ℕ) → k < suc n → (k < n) ⊎ (k ≡ n)
    less_or_same k n lt = by (ltb k n) refl
      where
        by : (b : Bool) → ltb k n ≡ b → (k < n) ⊎ (k ≡ n)
        by true e = inl (ltb-true k n e)
        by false e = inr (omega (arith, lt, ltb-false k n e))

abbrev are_same : Bool → Bool → Bool
are_same true b = b
are_same false b = not b

same_is : (a b : Bool) → are_same a b ≡ true → a ≡ b
same_is true true e = refl
same_is true false e = absurd cc
same_is false true e = absurd cc
same_is false false e = refl

abbrev marked_well : ℕ → Bool
marked_well f = ltb (bit_or f 16) 256 && are_same (leb 128 (bit_or f 16)) (leb 128 f)

abbrev cleared_well : ℕ → Bool
cleared_well f = ltb (f - f % 4) 256 && are_same (leb 128 (f - f % 4)) (leb 128 f)

all_marked : all_below 256 marked_well ≡ true
all_marked = refl

all_cleared : all_below 256 cleared_well ≡ true
all_cleared = refl

-- flags are a byte, and say as before whether there is a secondary header
pub record AreFlags (f g : ℕ) : Type 0 where
  pub byte : f < 256
  pub secondary : leb 128 f ≡ leb 128 g

pub marked_flags : (owed : Bool) (f : ℕ) → f < 256 → AreFlags (flags_with owed f) f
marked_flags false f small = record { byte = small; secondary = refl }
marked_flags true f small =
    let parts = both (ltb (bit_or f 16) 256) (are_same (leb 128 (bit_or f 16)) (leb 128 f)) (below_all 256 marked_well all_marked f small) in
    record { byte = ltb-true (bit_or f 16) 256 parts.0; secondary = same_is (leb 128 (bit_or f 16)) (leb 128 f) parts.1 }

pub cleared_flags : (f : ℕ) → f < 256 → AreFlags (f - f % 4) f
cleared_flags f small =
    let parts = both (ltb (f - f % 4) 256) (are_same (leb 128 (f - f % 4)) (leb 128 f)) (below_all 256 cleared_well all_cleared f small) in
    record { byte = ltb-true (f - f % 4) 256 parts.0; secondary = same_is (leb 128 (f - f % 4)) (leb 128 f) parts.1 }

-- ---- a header that was read

same_by : (g h : Header) (a b : Bool) (e f : HeaderError) → cond (not a) (Err e) (cond (not b) (Err f) (Ok g)) ≡ Ok h → (g ≡ h) × (a ≡ true) × (b ≡ true)
same_by g h false b e f is = cc
same_by g h true false e f is = cc
same_by g h true true e f is = (cc, refl, refl)

-- its numbers fit their bytes, and its lengths are lawful
pub record IsLawful (h : Header) : Type 0 where
  pub fits : Fits h
  pub length : is_packet_length h.packet_length ≡ true
  pub room : has_room h ≡ true

fields_fit : (bytes : List ℕ) → AreBytes bytes → Fits (fields_of bytes)
unfolding fields_of
fields_fit bytes small = record {
  channel = little_from-lt 0 2 (drop 2 bytes) (bytes-drop 2 bytes small);
  packet_length = little_from-lt 0 4 (drop 4 bytes) (bytes-drop 4 bytes small);
  data_length = little_from-lt 0 4 (drop 8 bytes) (bytes-drop 8 bytes small);
  version = small 12;
  sequence = small 13;
  flags = small 14;
  kind = small 15;
  counter = little_from-lt 0 6 (drop 16 bytes) (bytes-drop 16 bytes small);
}

tests_of : (g h : Header) → with_lawful_lengths g ≡ Ok h → (g ≡ h) × (is_packet_length g.packet_length ≡ true) × (has_room g ≡ true)
unfolding with_lawful_lengths
tests_of g h is = same_by g h (is_packet_length g.packet_length) (has_room g) PacketLength DataLength is

pub fields_same : (bytes : List ℕ) (h : Header) → header_in bytes ≡ Ok h → fields_of bytes ≡ h
fields_same bytes h is = (tests_of (fields_of bytes) h (lawful bytes h is)).0

pub is_lawful : (bytes : List ℕ) (h : Header) → AreBytes bytes → header_in bytes ≡ Ok h → IsLawful h
is_lawful bytes h small is =
    let t = tests_of (fields_of bytes) h (lawful bytes h is) in
    subst IsLawful t.0 (record { fits = fields_fit bytes small; length = t.1; room = t.2 })

pub lawful_again : (h : Header) → IsLawful h → with_lawful_lengths h ≡ Ok h
unfolding with_lawful_lengths
lawful_again h is = rw (is.length, is.room) refl

-- ---- the header with which it goes over

-- with another number and other flags that say the same of a secondary header
pub renumbered : (h : Header) (number flags : ℕ) → IsLawful h → number < 256 → AreFlags flags h.flags → IsLawful (record h { sequence = number; flags = flags })
renumbered h number flags is small same = record {
  fits = record {
    channel = is.fits.channel;
    packet_length = is.fits.packet_length;
    data_length = is.fits.data_length;
    version = is.fits.version;
    sequence = small;
    flags = same.byte;
    kind = is.fits.kind;
    counter = is.fits.counter;
  };
  length = is.length;
  room = ap (λ (b : Bool). leb (cond b 36 24 + h.data_length) h.packet_length) same.secondary ∙ is.room;
}

both_true : (a b : Bool) → a ≡ true → b ≡ true → (a && b) ≡ true
both_true a b p q = rw (p, q) refl

start_by : (b : Bool) (size : ℕ) → is_packet_length (cond b 36 24 + (4 + size) + filler_for (4 + size)) ≡ true
start_by true size = both_true _ _ (le-leb 24 (36 + (4 + size) + filler_for (4 + size)) (omega arith)) (eq-eqb ((36 + (4 + size) + filler_for (4 + size)) % 4) 0 (omega arith))
start_by false size = both_true _ _ (le-leb 24 (24 + (4 + size) + filler_for (4 + size)) (omega arith)) (eq-eqb ((24 + (4 + size) + filler_for (4 + size)) % 4) 0 (omega arith))

pub room_le : (h : Header) → has_room h ≡ true → body_start h + h.data_length ≤ h.packet_length
room_le h is = leb-true (body_start h + h.data_length) h.packet_length is

counter_small : (kind : StampKind) (counter : ℕ) (ms : List Message) → counter < 2 ^ 48 → counter_by kind counter ms < 2 ^ 48
counter_small Counter counter ms small = mod-lt (first_stamp ms) (omega arith)
counter_small TimeOfDay counter ms small = small
counter_small Unknown counter ms small = mod-lt (first_stamp ms) (omega arith)

-- of a packet that loses messages
pub lost_lawful : (h : Header) (ms : List Message) → IsLawful h → 18 + sizes_of ms ≤ h.data_length → IsLawful (header_with h ms)
lost_lawful h ms is few =
    let flags = cleared_flags h.flags is.fits.flags in
    let room : body_start h + h.data_length ≤ h.packet_length = room_le h is.room in
    let filler : filler_for (4 + sizes_of ms) ≤ 3 = omega arith in
    record {
      fits = record {
        channel = is.fits.channel;
        packet_length = omega (arith, room, few, filler, is.fits.packet_length);
        data_length = omega (arith, few, is.fits.data_length);
        version = is.fits.version;
        sequence = is.fits.sequence;
        flags = flags.byte;
        kind = is.fits.kind;
        counter = counter_small (kind_of h) h.counter ms is.fits.counter;
      };
      length = start_by (leb 128 h.flags) (sizes_of ms);
      room = ap (λ (b : Bool). leb (cond b 36 24 + (4 + sizes_of ms)) (body_start h + (4 + sizes_of ms) + filler_for (4 + sizes_of ms))) flags.secondary
          ∙ le-leb (body_start h + (4 + sizes_of ms)) (body_start h + (4 + sizes_of ms) + filler_for (4 + sizes_of ms)) (omega arith);
    }
