-- The packets that go over are read as what was chosen of them.
use Rattle.std.proofs.Common.{◌≡◌, ℕ, ◌+◌, ◌-◌, ◌*◌, ◌<◌, ◌≤◌, ◌^◌, Bool, true, false, cond, ltb, List, [], ◌++◌, length, take, drop, Result, Ok, Err, refl, sym, ap, subst, ◌∙◌, append_assoc, arith}
use Rattle.std.specs.Prelude.{slice_range, slice_index}
use Rattle.std.specs.List.{AllByRecursion}
use Rattle.std.proofs.lemmas.Bool.{le-ltb, ltb-false, ltb-true}
use Rattle.std.proofs.lemmas.List.{drop-drop, length-append, length-drop, length-replicate, length-take-le, take_at}
use Rattle.std.proofs.Math.Nat.{mod-lt}
use Rattle.std.proofs.Math.Seq.{drop-append_seam}
use Rattle.byteorder.specs.Endian.{little_bytes}
use Rattle.ch11_f1.specs.declared.error.BodyError.{BodyError}
use Rattle.ch11_f1.specs.BodyReading.{Message, messages_in, ok_or_none}
use Rattle.ch11_header.specs.declared.header.Header.{Header}
use Rattle.ch11_header.specs.HeaderBytes.{header_bytes, summed_bytes}
use Rattle.ch11_header.specs.HeaderReading.{body_start, has_secondary, header_in}
use Rattle.ch11_header.proofs.Again.{read_again}
use Rattle.ch11_reader.specs.declared.error.PacketFault.TheVariants as faults
use Rattle.ch11_reader.proofs.Joined.{least_of}
use Rattle.ch11_reader.specs.Recording.{body_of, holds_messages, packet_messages, packet_at, with_body}
use Rattle.bench_complete.specs.SetupRecord.{filler_for}
use Rattle.bench_complete.proofs.Sound.{AreBytes, front}
use Rattle.bench_cut.specs.Cut.{body_with, bytes_of_messages, filler, flags_with, front_with, header_behind, header_with, kept_rest, one, sizes_of}
use Rattle.bench_cut.specs.Numbers.{is_owed, number_behind}
use Rattle.bench_cut.specs.Parts.{Part, loses}
use Rattle.bench_cut.proofs.Again.{body_again, messages_size}
use Rattle.bench_cut.proofs.Facts.{Fits}
use Rattle.bench_cut.proofs.Headers.{AreFlags, IsLawful, cleared_flags, is_lawful, lawful_again, lost_lawful, marked_flags, renumbered, room_le}

header_size : (h : Header) → length (header_bytes h) ≡ 24
unfolding header_bytes summed_bytes
header_size h = refl

-- what stands behind a header of 24 bytes
behind_head : (k : ℕ) (head rest : List ℕ) → length head ≡ 24 → drop (24 + k) (head ++ rest) ≡ drop k rest
behind_head k head rest size =
    sym (drop-drop k 24 (head ++ rest)) ∙ ap (λ (n : ℕ). drop k (drop n (head ++ rest))) (sym size) ∙ ap (drop k) (drop-append_seam head rest)

-- ---- a packet with a lawful header

module _ (h : Header) (rest : List ℕ) (lawful : IsLawful h) (size : 24 + length rest ≡ h.packet_length) where
  abbrev bytes : List ℕ
  bytes = header_bytes h ++ rest

  pub whole_size : length bytes ≡ h.packet_length
  whole_size = length-append (header_bytes h) rest ∙ ap (λ (n : ℕ). n + length rest) (header_size h) ∙ size

  read_header : header_in bytes ≡ Ok h
  read_header = read_again h rest lawful.fits (lawful_again h lawful)

  enough : ltb (length bytes) h.packet_length ≡ false
  enough = le-ltb (length bytes) h.packet_length (omega (arith, whole_size))

  -- of another type
  pub other_read : holds_messages h ≡ false → packet_at bytes ≡ Ok h
  unfolding packet_at
  other_read other = rw (read_header, enough, other) refl

  -- of messages
  pub messages_read : (ms : List Message) → holds_messages h ≡ true → messages_in (body_of h bytes) ≡ Ok ms → packet_at bytes ≡ Ok h
  unfolding packet_at
  messages_read ms holds is = rw (read_header, enough, holds, is) refl

-- where its body begins
start_of : (b : Bool) → cond b 36 24 ≡ 24 + (cond b 36 24 - 24)
start_of true = refl
start_of false = refl

-- ---- one that loses none

kept_body : (h g : Header) (bytes : List ℕ) → body_start g ≡ body_start h → g.data_length ≡ h.data_length → body_of g (header_bytes g ++ drop 24 bytes) ≡ body_of h bytes
kept_body h g bytes start size =
    let k : ℕ = body_start h - 24 in
    let place : body_start h ≡ 24 + k = start_of (has_secondary h.flags) in
    let same : drop (body_start g) (header_bytes g ++ drop 24 bytes) ≡ drop (body_start h) bytes =
    ap (λ (n : ℕ). drop n (header_bytes g ++ drop 24 bytes)) (start ∙ place) ∙ behind_head k (header_bytes g) (drop 24 bytes) (header_size g) ∙ drop-drop k 24 bytes ∙ ap (λ (n : ℕ). drop n bytes) (sym place) in
    ap (λ (n : ℕ). take n (drop (body_start g) (header_bytes g ++ drop 24 bytes))) size ∙ ap (take h.data_length) same

-- ---- one that loses some

lost_body : (h g : Header) (bytes : List ℕ) (ms : List Message) → g.data_length ≡ 4 + sizes_of ms → body_start g ≡ body_start h → body_start h ≤ length bytes
    → body_of g (header_bytes g ++ body_with h bytes ms) ≡ little_bytes 3 (length ms) ++ (one (slice_index bytes (body_start h + 3)) ++ bytes_of_messages ms)
lost_body h g bytes ms size start room =
    let k : ℕ = body_start h - 24 in
    let place : body_start h ≡ 24 + k = start_of (has_secondary h.flags) in
    let word : List ℕ = little_bytes 3 (length ms) ++ one (slice_index bytes (body_start h + 3)) in
    let secondary : List ℕ = slice_range bytes 24 (body_start h) in
    let pad : List ℕ = filler (filler_for (4 + sizes_of ms)) in
    let width : length secondary ≡ k = length-take-le k (drop 24 bytes) (omega (arith, place, room, length-drop 24 bytes)) in
    let all : body_with h bytes ms ≡ secondary ++ (word ++ (bytes_of_messages ms ++ pad)) = append_assoc secondary word (bytes_of_messages ms ++ pad) in
    let body : List ℕ = word ++ bytes_of_messages ms in
    let long : length body ≡ 4 + sizes_of ms = length-append word (bytes_of_messages ms) ∙ ap (λ (n : ℕ). 4 + n) (messages_size ms) in
    ap (λ (n : ℕ). take g.data_length (drop n (header_bytes g ++ body_with h bytes ms))) (start ∙ place)
    ∙ ap (take g.data_length) (behind_head k (header_bytes g) (body_with h bytes ms) (header_size g) ∙ ap (drop k) all ∙ ap (λ (n : ℕ). drop n (secondary ++ (word ++ (bytes_of_messages ms ++ pad)))) (sym width)
    ∙ drop-append_seam secondary (word ++ (bytes_of_messages ms ++ pad)) ∙ sym (append_assoc word (bytes_of_messages ms) pad))
    ∙ ap (λ (n : ℕ). take n (body ++ pad)) size
    ∙ take_at body pad (4 + sizes_of ms) long
    ∙ append_assoc (little_bytes 3 (length ms)) (one (slice_index bytes (body_start h + 3))) (bytes_of_messages ms)

-- ---- parts

-- a packet that was read, and what is chosen of it
pub record IsPartRead (p : Part) : Type 0 where
  pub packet : packet_at p.bytes ≡ Ok p.header
  pub size : length p.bytes ≡ p.header.packet_length
  pub messages : p.messages ≡ packet_messages p.header p.bytes
  pub small : AreBytes p.bytes
  pub fits : AllByRecursion Fits p.chosen
  pub few : length p.messages < 2 ^ 24
  pub room : 0 < length p.messages → 4 + sizes_of p.messages ≤ p.header.data_length
  pub lighter : sizes_of p.chosen + 14 * length p.messages ≤ sizes_of p.messages + 14 * length p.chosen
  pub fewer : length p.chosen ≤ length p.messages
  pub all : length p.chosen ≡ length p.messages → p.chosen ≡ p.messages

body_by : (h : Header) (bytes : List ℕ) (read : Result (List Message) BodyError) → messages_in (body_of h bytes) ≡ read → with_body h read ≡ Ok h → messages_in (body_of h bytes) ≡ Ok (ok_or_none (messages_in (body_of h bytes)))
body_by h bytes (Ok ms) is e = is ∙ ap (λ (r : Result (List Message) BodyError). Ok (ok_or_none r)) (sym is)
body_by h bytes (Err f) is e = absurd cc

rest_by : (h : Header) (bytes : List ℕ) (short : Bool) → holds_messages h ≡ true → cond short (Err faults.End) (with_body h (messages_in (body_of h bytes))) ≡ Ok h → with_body h (messages_in (body_of h bytes)) ≡ Ok h
rest_by h bytes true holds e = absurd cc
rest_by h bytes false holds e = e

body_read : (h : Header) (bytes : List ℕ) → packet_at bytes ≡ Ok h → holds_messages h ≡ true → messages_in (body_of h bytes) ≡ Ok (ok_or_none (messages_in (body_of h bytes)))
body_read h bytes is holds =
    let rest : cond (ltb (length bytes) h.packet_length) (Err faults.End) (with_body h (messages_in (body_of h bytes))) ≡ Ok h = ap (λ (b : Bool). cond (ltb (length bytes) h.packet_length) (Err faults.End) (cond b (with_body h (messages_in (body_of h bytes))) (Ok h))) (sym holds) ∙ (front bytes h is).rest in
    body_by h bytes (messages_in (body_of h bytes)) refl (rest_by h bytes (ltb (length bytes) h.packet_length) holds rest)

-- what a piece is read as
pub record IsReadAs (g : Header) (rest : List ℕ) (ms : List Message) : Type 0 where
  pub size : length (header_bytes g ++ rest) ≡ g.packet_length
  pub packet : packet_at (header_bytes g ++ rest) ≡ Ok g
  pub messages : packet_messages g (header_bytes g ++ rest) ≡ ms

module _ (p : Part) (r : IsPartRead p) (number flags : ℕ) (byte : number < 256) where
  lawful : IsLawful p.header
  lawful = is_lawful p.bytes p.header r.small (front p.bytes p.header r.packet).header

  kept_as : AreFlags flags p.header.flags → IsReadAs (record p.header { sequence = number; flags = flags }) (drop 24 p.bytes) p.messages
  kept_as same = by (holds_messages p.header) refl
    where
      good : IsLawful (record p.header { sequence = number; flags = flags })
      good = renumbered p.header number flags lawful byte same

      size : 24 + length (drop 24 p.bytes) ≡ p.header.packet_length
      size = omega (arith, length-drop 24 p.bytes, r.size, (least_of p.bytes p.header r.packet).0)

      body : body_of (record p.header { sequence = number; flags = flags }) (header_bytes (record p.header { sequence = number; flags = flags }) ++ drop 24 p.bytes) ≡ body_of p.header p.bytes
      body = kept_body p.header (record p.header { sequence = number; flags = flags }) p.bytes (ap (λ (b : Bool). cond b 36 24) same.secondary) refl

      by : (b : Bool) → holds_messages p.header ≡ b → IsReadAs (record p.header { sequence = number; flags = flags }) (drop 24 p.bytes) p.messages
      by false other = record {
        size = whole_size (record p.header { sequence = number; flags = flags }) (drop 24 p.bytes) good size;
        packet = other_read (record p.header { sequence = number; flags = flags }) (drop 24 p.bytes) good size other;
        messages = rw other (sym (r.messages ∙ rw other refl));
      }
      by true holds =
          let read = body_read p.header p.bytes r.packet holds in
          record {
            size = whole_size (record p.header { sequence = number; flags = flags }) (drop 24 p.bytes) good size;
            packet = messages_read (record p.header { sequence = number; flags = flags }) (drop 24 p.bytes) good size (ok_or_none (messages_in (body_of p.header p.bytes))) holds (ap messages_in body ∙ read);
            messages = rw holds (ap (λ (l : List ℕ). ok_or_none (messages_in l)) body ∙ sym (r.messages ∙ rw holds refl));
          }

-- there are messages only in a packet of messages
holds_some : (h : Header) (bytes : List ℕ) (b : Bool) → holds_messages h ≡ b → 0 < length (packet_messages h bytes) → holds_messages h ≡ true
holds_some h bytes true e some = e
holds_some h bytes false e some = absurd (omega (arith, some, ap length (none_held h bytes e)))
  where
    none_held : (h : Header) (bytes : List ℕ) → holds_messages h ≡ false → packet_messages h bytes ≡ []
    none_held h bytes other = rw other refl

module _ (p : Part) (r : IsPartRead p) (number flags : ℕ) (byte : number < 256) (some : loses p ≡ true) where
  lost : length p.chosen < length p.messages
  lost = ltb-true (length p.chosen) (length p.messages) some

  there : 0 < length p.messages
  there = omega (arith, lost)

  fits_in : 18 + sizes_of p.chosen ≤ p.header.data_length
  fits_in = omega (arith, lost, r.room there, r.lighter)

  holds : holds_messages p.header ≡ true
  holds = holds_some p.header p.bytes (holds_messages p.header) refl (omega (arith, there, ap length r.messages))

  base : IsLawful p.header
  base = is_lawful p.bytes p.header r.small (front p.bytes p.header r.packet).header

  shorter : IsLawful (header_with p.header p.chosen)
  shorter = lost_lawful p.header p.chosen base fits_in

  lost_as : AreFlags flags (header_with p.header p.chosen).flags → IsReadAs (record (header_with p.header p.chosen) { sequence = number; flags = flags }) (body_with p.header p.bytes p.chosen) p.chosen
  lost_as same =
      let g : Header = record (header_with p.header p.chosen) { sequence = number; flags = flags } in
      let good : IsLawful g = renumbered (header_with p.header p.chosen) number flags shorter byte same in
      let start : body_start g ≡ body_start p.header = ap (λ (b : Bool). cond b 36 24) (same.secondary ∙ (cleared_flags p.header.flags base.fits.flags).secondary) in
      let room = room_le p.header base.room in
      let whole : body_start p.header ≤ length p.bytes = omega (arith, room, r.size) in
      let place : body_start p.header ≡ 24 + (body_start p.header - 24) = start_of (has_secondary p.header.flags) in
      let secondary = length-take-le (body_start p.header - 24) (drop 24 p.bytes) (omega (arith, place, whole, length-drop 24 p.bytes)) in
      let body = lost_body p.header g p.bytes p.chosen refl start whole in
      let read : messages_in (body_of g (header_bytes g ++ body_with p.header p.bytes p.chosen)) ≡ Ok p.chosen = ap messages_in body ∙ body_again p.chosen (slice_index p.bytes (body_start p.header + 3)) r.fits (omega (arith, r.few, lost)) in
      let size : 24 + length (body_with p.header p.bytes p.chosen) ≡ g.packet_length = body_size secondary place in
      record {
        size = whole_size g (body_with p.header p.bytes p.chosen) good size;
        packet = messages_read g (body_with p.header p.bytes p.chosen) good size p.chosen holds read;
        messages = rw holds (ap ok_or_none read);
      }
    where
      body_size : length (take (body_start p.header - 24) (drop 24 p.bytes)) ≡ body_start p.header - 24 → body_start p.header ≡ 24 + (body_start p.header - 24)
          → 24 + length (body_with p.header p.bytes p.chosen) ≡ body_start p.header + (4 + sizes_of p.chosen) + filler_for (4 + sizes_of p.chosen)
      body_size width place =
          omega (
            arith,
            width,
            place,
            length-append (front_with p.header p.bytes (length p.chosen)) (bytes_of_messages p.chosen ++ filler (filler_for (4 + sizes_of p.chosen))),
            length-append (slice_range p.bytes 24 (body_start p.header)) (little_bytes 3 (length p.chosen) ++ one (slice_index p.bytes (body_start p.header + 3))),
            length-append (bytes_of_messages p.chosen) (filler (filler_for (4 + sizes_of p.chosen))),
            length-replicate {A = ℕ} (filler_for (4 + sizes_of p.chosen)) 0,
            messages_size p.chosen,
          )

-- ---- all that go over

chosen_all : (p : Part) → IsPartRead p → loses p ≡ false → p.messages ≡ p.chosen
chosen_all p r none = sym (r.all (omega (arith, r.fewer, ltb-false (length p.chosen) (length p.messages) none)))

piece_by : (earlier : List Part) (p : Part) → IsPartRead p → (b : Bool) → loses p ≡ b → IsReadAs (header_behind earlier p) (kept_rest p) p.chosen
piece_by earlier p r true some =
    let base = is_lawful p.bytes p.header r.small (front p.bytes p.header r.packet).header in
    rw some (lost_as p r (number_behind earlier p) (flags_with (is_owed p.header.channel earlier) (header_with p.header p.chosen).flags) (mod-lt _ (omega arith)) some
    (marked_flags (is_owed p.header.channel earlier) (header_with p.header p.chosen).flags (cleared_flags p.header.flags base.fits.flags).byte))
piece_by earlier p r false none =
    let base = is_lawful p.bytes p.header r.small (front p.bytes p.header r.packet).header in
    let read : IsReadAs (record p.header { sequence = number_behind earlier p; flags = flags_with (is_owed p.header.channel earlier) p.header.flags }) (drop 24 p.bytes) p.chosen =
    subst (IsReadAs (record p.header { sequence = number_behind earlier p; flags = flags_with (is_owed p.header.channel earlier) p.header.flags }) (drop 24 p.bytes)) (chosen_all p r none)
    (kept_as p r (number_behind earlier p) (flags_with (is_owed p.header.channel earlier) p.header.flags) (mod-lt _ (omega arith)) (marked_flags (is_owed p.header.channel earlier) p.header.flags base.fits.flags)) in
    rw none read

pub piece_read : (earlier : List Part) (p : Part) → IsPartRead p → IsReadAs (header_behind earlier p) (kept_rest p) p.chosen
piece_read earlier p r = piece_by earlier p r (loses p) refl
