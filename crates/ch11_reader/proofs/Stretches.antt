-- Reading a damaged recording stretch by stretch.
use Rattle.std.proofs.Common.{◌≡◌, ℕ, zero, suc, ◌-◌, ◌+◌, ◌≤◌, ◌<◌, List, [], ◌∷◌, ◌++◌, length, drop, Bool, set, get_or, Option, None, Some, Result, Ok, Err, refl, sym, ap, ◌∙◌, append_assoc, arith}
use Rattle.std.proofs.lemmas.List.{append-nil, length-drop}
use Rattle.ch11_header.specs.declared.header.Header.{Header}
use Rattle.ch11_reader.specs.declared.error.PacketFault.{PacketFault}
use Rattle.ch11_reader.specs.declared.skip.Skip.{Skip}
use Rattle.ch11_reader.specs.declared.packet.Packet.{Packet}
use Rattle.ch11_reader.specs.Recording.{Found, packet_at, packets_from, packets_in}
use Rattle.ch11_reader.specs.Indexed.{indexed}
use Rattle.ch11_reader.specs.Listing.{jumps}
use Rattle.ch11_reader.specs.Skipping.{Stretch, Read, Skipped, none_or_behind, bytes_before, first_stretch, first_size, stretches_from, stretches_in, packets_among, skips_among, packets_read, skips_in}
use Rattle.ch11_reader.proofs.Loop.{in_order, next_found, next_entry, IsNext, Entered, one_entered, none_entered, all_entered}
use Rattle.ch11_reader.proofs.Joined.{found_at, first_of}

-- earlier stretches, newest first, and then others
abbrev pub in_turn : List Stretch → List Stretch → List Stretch
in_turn [] others = others
in_turn (s ∷ earlier) others = in_turn earlier (s ∷ others)

-- the stretches so far, newest first: what is left gives the rest
pub record IsUnderWay (file rest : List ℕ) (earlier : List Stretch) : Type 0 where
  pub most : ℕ
  pub enough : length rest ≤ most
  pub so_far : in_turn earlier (stretches_from most (length file - length rest) rest) ≡ stretches_in file

pub sets_out : (file : List ℕ) → IsUnderWay file file []
sets_out file = record { most = length file; enough = omega arith; so_far = rw at_start refl }
  where
    at_start : length file - length file ≡ 0
    at_start = omega arith

one_further : (file rest : List ℕ) (earlier : List Stretch) (n : ℕ) (s : Stretch) → 0 < length rest → s ≡ first_stretch (length file - length rest) (packet_at rest) rest → n ≡ first_size (packet_at rest) rest
    → 0 < n → n ≤ length rest → length rest ≤ length file → IsUnderWay file rest earlier → IsUnderWay file (drop n rest) (s ∷ earlier)
unfolding stretches_from
one_further file [] earlier n s some is size long fits short g = absurd (omega arith)
one_further file (b ∷ bs) earlier n s some is size long fits short g = go g.most g.enough g.so_far
  where
    next : length file - length (drop n (b ∷ bs)) ≡ length file - length (b ∷ bs) + n
    next = omega (arith, length-drop n (b ∷ bs), fits, short)

    go : (most : ℕ) → length (b ∷ bs) ≤ most → in_turn earlier (stretches_from most (length file - length (b ∷ bs)) (b ∷ bs)) ≡ stretches_in file → IsUnderWay file (drop n (b ∷ bs)) (s ∷ earlier)
    go zero enough so_far = absurd (omega arith)
    go (suc most) enough so_far = record { most = most; enough = omega (arith, length-drop n (b ∷ bs)); so_far = rw (next, is, size) so_far }

-- the stretch of a packet
abbrev pub read_next : List ℕ → List ℕ → Header → Stretch
read_next file rest h = Read (next_found file rest h)

-- the stretch of skipped bytes
abbrev pub skip_next : List ℕ → List ℕ → PacketFault → Skip
skip_next file rest f = record { offset = length file - length rest; length = bytes_before rest; fault = f }

pub packet_read : (file rest : List ℕ) (earlier : List Stretch) (h : Header) → packet_at rest ≡ Ok h → 24 ≤ h.packet_length → h.packet_length ≤ length rest → length rest ≤ length file
    → IsUnderWay file rest earlier → IsUnderWay file (drop h.packet_length rest) (read_next file rest h ∷ earlier)
packet_read file rest earlier h is long fits short g = one_further file rest earlier h.packet_length (read_next file rest h) (omega arith) (rw is refl) (rw is refl) (omega arith) fits short g

none_or_few : (read : Result Header PacketFault) (behind size : ℕ) → behind ≤ size → none_or_behind read behind ≤ suc size
none_or_few (Ok h) behind size few = omega arith
none_or_few (Err f) behind size few = omega (arith, few)

-- how many bytes are skipped
pub few_before : (bytes : List ℕ) → bytes_before bytes ≤ length bytes
few_before [] = omega arith
few_before (b ∷ bs) = none_or_few (packet_at (b ∷ bs)) (bytes_before bs) (length bs) (few_before bs)

pub some_before : (bytes : List ℕ) (f : PacketFault) → 0 < length bytes → packet_at bytes ≡ Err f → 0 < bytes_before bytes
some_before [] f some is = absurd (omega arith)
some_before (b ∷ bs) f some is = rw is (omega arith)

pub none_before : (bytes : List ℕ) (h : Header) → packet_at bytes ≡ Ok h → bytes_before bytes ≡ 0
none_before [] h is = refl
none_before (b ∷ bs) h is = rw is refl

pub one_before : (bytes : List ℕ) (f : PacketFault) → 0 < length bytes → packet_at bytes ≡ Err f → bytes_before bytes ≡ suc (bytes_before (drop 1 bytes))
one_before [] f some is = absurd (omega arith)
one_before (b ∷ bs) f some is = rw is refl

pub bytes_skipped : (file rest : List ℕ) (earlier : List Stretch) (f : PacketFault) → packet_at rest ≡ Err f → 0 < length rest → length rest ≤ length file
    → IsUnderWay file rest earlier → IsUnderWay file (drop (bytes_before rest) rest) (Skipped (skip_next file rest f) ∷ earlier)
bytes_skipped file rest earlier f is some short g =
    one_further file rest earlier (bytes_before rest) (Skipped (skip_next file rest f)) some (rw is refl) (rw is refl) (some_before rest f some is) (few_before rest) short g

packets_in_turn : (earlier others : List Stretch) → packets_among (in_turn earlier others) ≡ in_order (packets_among earlier) (packets_among others)
packets_in_turn [] others = refl
packets_in_turn (Read p ∷ earlier) others = packets_in_turn earlier (Read p ∷ others)
packets_in_turn (Skipped s ∷ earlier) others = packets_in_turn earlier (Skipped s ∷ others)

-- the entries, the skips and the bytes that are left fit the stretches so far
pub record Reading (file rest : List ℕ) (entries : List Packet) (before : ℕ) (latest : List (Option ℕ)) (skips : List Skip) : Type 0 where
  pub earlier : List Stretch
  pub going : IsUnderWay file rest earlier
  pub entered : Entered file rest (packets_among earlier) entries before latest
  pub skipped : (others : List Stretch) → skips_among (in_turn earlier others) ≡ skips ++ skips_among others

pub reads_one : (file rest : List ℕ) (entries : List Packet) (before : ℕ) (latest : List (Option ℕ)) (skips : List Skip) (h : Header) (counted : ℕ) (jump : Bool) → IsNext file rest h counted → Reading file rest entries before latest skips
    → jump ≡ jumps (get_or latest h.channel None) h.sequence
    → Reading file (drop h.packet_length rest) (entries ++ next_entry file rest before h counted jump ∷ []) (before + counted) (set latest h.channel (Some h.sequence)) skips
reads_one file rest entries before latest skips h counted jump next r known = record {
  earlier = read_next file rest h ∷ r.earlier;
  going = packet_read file rest r.earlier h next.read next.long next.whole r.entered.shorter r.going;
  entered = one_entered file rest (packets_among r.earlier) entries before latest h counted jump next r.entered known;
  skipped = λ others. r.skipped (read_next file rest h ∷ others);
}

pub skips_one : (file rest : List ℕ) (entries : List Packet) (before : ℕ) (latest : List (Option ℕ)) (skips : List Skip) (f : PacketFault) → packet_at rest ≡ Err f → 0 < length rest → Reading file rest entries before latest skips
    → Reading file (drop (bytes_before rest) rest) entries before latest (skips ++ skip_next file rest f ∷ [])
skips_one file rest entries before latest skips f is some r = record {
  earlier = Skipped (skip_next file rest f) ∷ r.earlier;
  going = bytes_skipped file rest r.earlier f is some r.entered.shorter r.going;
  entered = none_entered file rest (packets_among r.earlier) entries before latest (bytes_before rest) (few_before rest) r.entered;
  skipped = λ others. r.skipped (Skipped (skip_next file rest f) ∷ others) ∙ sym (append_assoc skips (skip_next file rest f ∷ []) (skips_among others));
}

all_done : (file rest : List ℕ) (earlier : List Stretch) → length rest ≡ 0 → IsUnderWay file rest earlier → stretches_in file ≡ in_turn earlier []
unfolding stretches_from
all_done file (b ∷ bs) earlier none g = absurd (omega arith)
all_done file [] earlier none g = go g.most g.so_far
  where
    go : (most : ℕ) → in_turn earlier (stretches_from most (length file - 0) []) ≡ stretches_in file → stretches_in file ≡ in_turn earlier []
    go zero so_far = sym so_far
    go (suc most) so_far = sym so_far

pub all_read : (file rest : List ℕ) (entries : List Packet) (before : ℕ) (latest : List (Option ℕ)) (skips : List Skip) → length rest ≡ 0 → Reading file rest entries before latest skips → indexed file entries ≡ packets_read file
all_read file rest entries before latest skips none r =
    sym (ap packets_among (all_done file rest r.earlier none r.going) ∙ packets_in_turn r.earlier [] ∙ all_entered file rest (packets_among r.earlier) entries before latest r.entered)

pub all_skipped : (file rest : List ℕ) (entries : List Packet) (before : ℕ) (latest : List (Option ℕ)) (skips : List Skip) → length rest ≡ 0 → Reading file rest entries before latest skips → skips ≡ skips_in file
all_skipped file rest entries before latest skips none r =
    sym (ap skips_among (all_done file rest r.earlier none r.going) ∙ r.skipped [] ∙ append-nil skips)

-- ---- a recording without a fault

first_is_read : (most offset b : ℕ) (bs : List ℕ) (h : Header) → packet_at (b ∷ bs) ≡ Ok h
    → stretches_from (suc most) offset (b ∷ bs) ≡ Read (found_at offset h (b ∷ bs)) ∷ stretches_from most (offset + h.packet_length) (drop h.packet_length (b ∷ bs))
unfolding stretches_from
first_is_read most offset b bs h is = rw is refl

whole_at : (most offset : ℕ) (bytes : List ℕ) (ps : List Found) → packets_from most offset bytes ≡ Ok ps → (packets_among (stretches_from most offset bytes) ≡ ps) × (skips_among (stretches_from most offset bytes) ≡ [])
unfolding packets_from stretches_from
whole_at zero offset bytes ps is = (cc, refl)
whole_at (suc most) offset [] ps is = (cc, refl)
whole_at (suc most) offset (b ∷ bs) ps is =
    let f = first_of most offset b bs ps is in
    let others = whole_at most (offset + f.header.packet_length) (drop f.header.packet_length (b ∷ bs)) f.others f.behind in
    let first = first_is_read most offset b bs f.header f.is in (
      ap packets_among first ∙ ap (λ (ps : List Found). found_at offset f.header (b ∷ bs) ∷ ps) others.0 ∙ sym f.all,
      ap skips_among first ∙ others.1,
    )

pub nothing_sound_is_skipped : (file : List ℕ) (ps : List Found) → packets_in file ≡ Ok ps → (packets_read file ≡ ps) × (skips_in file ≡ [])
nothing_sound_is_skipped file ps is = whole_at (length file) 0 file ps is
