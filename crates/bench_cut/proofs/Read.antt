-- What is read of a recording that was cut.
use Rattle.std.proofs.Common.{◌≡◌, ℕ, ◌+◌, ◌≤◌, Bool, true, false, not, cond, eqb, ltb, ◌&&◌, ◌||◌, List, [], ◌∷◌, ◌++◌, length, take, drop, refl, sym, ap, ◌∙◌, arith}
use Rattle.std.specs.List.{AllByRecursion}
use Rattle.std.proofs.lemmas.Bool.{eqb-true, ltb-false}
use Rattle.ch11_f1.specs.BodyReading.{Message, messages_in, ok_or_none}
use Rattle.ch11_layout.specs.Stamps.{kind_of, recorded}
use Rattle.ch11_layout.specs.declared.stamps.StampKind.{StampKind}
use Rattle.ch11_reader.specs.Recording.{Found, body_of, packet_messages}
use Rattle.bench_complete.specs.Judging.{AllReadAt, ReadsAt}
use Rattle.bench_complete.specs.Merging.{of_channel}
use Rattle.bench_complete.specs.Pieces.{Piece}
use Rattle.bench_complete.proofs.Again as again
use Rattle.bench_complete.proofs.Again.{AreWhole, IsWhole, found_from, heard, read_again}
use Rattle.bench_complete.proofs.Alone.{own_messages, own_packet, own_size}
use Rattle.bench_complete.proofs.Sound.{AreBytes, all_read}
use Rattle.bench_select.specs.declared.selection.Selection.{Selection}
use Rattle.bench_select.specs.Selecting.{selects}
use Rattle.bench_cut.specs.Cut.{cut_pieces, header_with, piece_behind, pieces_behind}
use Rattle.bench_cut.specs.Laws.{CutIsRead, chosen_behind}
use Rattle.bench_cut.specs.Parts.{Part, chosen_among, goes_over, loses, part_of, parts_behind, parts_in}
use Rattle.bench_cut.proofs.Choices.{fewer, lighter}
use Rattle.bench_cut.proofs.Facts.{Fits, bytes-drop, bytes-take, packet_facts}
use Rattle.bench_cut.proofs.Pieces.{IsPartRead, piece_read}

-- ---- what is chosen

chosen_fit : (s : Selection) (kind : StampKind) (n channel : ℕ) (ms : List Message) → AllByRecursion Fits ms → AllByRecursion Fits (chosen_among s kind n channel ms)
chosen_fit s kind n channel [] all = tt
chosen_fit s kind n channel (m ∷ ms) all = by (selects s (n + 1) channel (recorded kind m)) (chosen_among s kind (n + 1) channel ms) (chosen_fit s kind (n + 1) channel ms all.1)
  where
    by : (b : Bool) (xs : List Message) → AllByRecursion Fits xs → AllByRecursion Fits (cond b (m ∷ xs) xs)
    by true xs h = (all.0, h)
    by false xs h = h

all_chosen : (s : Selection) (kind : StampKind) (n channel : ℕ) (ms : List Message) → length (chosen_among s kind n channel ms) ≡ length ms → chosen_among s kind n channel ms ≡ ms
all_chosen s kind n channel [] size = refl
all_chosen s kind n channel (m ∷ ms) size = by (selects s (n + 1) channel (recorded kind m)) (λ e. all_chosen s kind (n + 1) channel ms e) size
  where
    few : length (chosen_among s kind (n + 1) channel ms) ≤ length ms
    few = fewer s kind (n + 1) channel ms

    by : (b : Bool) → (length (chosen_among s kind (n + 1) channel ms) ≡ length ms → chosen_among s kind (n + 1) channel ms ≡ ms) → length (cond b (m ∷ chosen_among s kind (n + 1) channel ms) (chosen_among s kind (n + 1) channel ms)) ≡ length (m ∷ ms) → cond b (m ∷ chosen_among s kind (n + 1) channel ms) (chosen_among s kind (n + 1) channel ms) ≡ m ∷ ms
    by true later e = ap (λ (l : List Message). m ∷ l) (later (omega (arith, e)))
    by false later e = absurd (omega (arith, e, few))

-- ---- the packets of a file

part_read : (s : Selection) (file : List ℕ) (n : ℕ) (p : Found) → AreBytes file → ReadsAt file p → IsPartRead (part_of s file n p)
part_read s file n p small r =
    let bytes : List ℕ = take p.header.packet_length (drop p.offset file) in
    let own : p.messages ≡ packet_messages p.header bytes = r.messages ∙ sym (own_messages (drop p.offset file) p.header r.packet) in
    let facts = packet_facts p.header bytes p.messages own in
    let are : AreBytes bytes = bytes-take p.header.packet_length (drop p.offset file) (bytes-drop p.offset file small) in
    record {
      packet = own_packet (drop p.offset file) p.header r.packet;
      size = own_size (drop p.offset file) p.header r.packet;
      messages = own;
      small = are;
      fits = chosen_fit s (kind_of p.header) n p.header.channel p.messages (facts.fits are);
      few = facts.few;
      room = facts.size;
      lighter = lighter s (kind_of p.header) n p.header.channel p.messages;
      fewer = fewer s (kind_of p.header) n p.header.channel p.messages;
      all = all_chosen s (kind_of p.header) n p.header.channel p.messages;
    }

abbrev AreRead : List Part → Type 0
AreRead ps = AllByRecursion IsPartRead ps

parts_read : (s : Selection) (file : List ℕ) (n : ℕ) (ps : List Found) → AreBytes file → AllReadAt file ps → AreRead (parts_behind s file n ps)
parts_read s file n [] small all = tt
parts_read s file n (p ∷ ps) small all = (part_read s file n p small all.0, parts_read s file (n + length p.messages) ps small all.1)

-- ---- those that go over

left_and : (a b : Bool) → (a && b) ≡ true → a ≡ true
left_and true b e = refl
left_and false b e = absurd cc

piece_whole : (earlier : List Part) (p : Part) → IsPartRead p → goes_over p ≡ true → IsWhole (piece_behind earlier p)
piece_whole earlier p r over =
    let read = piece_read earlier p r in
    record { over = kept_kind (left_and (not (eqb p.header.kind 3)) _ over); size = read.size; read = read.packet }
  where
    kept_kind : not (eqb p.header.kind 3) ≡ true → not (eqb (piece_behind earlier p).header.kind 3) ≡ true
    kept_kind e = by (loses p) e
      where
        by : (b : Bool) → not (eqb p.header.kind 3) ≡ true → not (eqb (cond b (header_with p.header p.chosen) p.header).kind 3) ≡ true
        by true e = e
        by false e = e

pieces_whole : (earlier ps : List Part) → AreRead ps → AreWhole (pieces_behind earlier ps)
pieces_whole earlier [] all = tt
pieces_whole earlier (p ∷ ps) all = by (goes_over p) refl (pieces_whole (p ∷ earlier) ps all.1)
  where
    by : (b : Bool) → goes_over p ≡ b → AreWhole (pieces_behind (p ∷ earlier) ps) → AreWhole (cond b (piece_behind earlier p ∷ pieces_behind (p ∷ earlier) ps) (pieces_behind (p ∷ earlier) ps))
    by true over rest = (piece_whole earlier p all.0 over, rest)
    by false out rest = rest

-- ---- what they are read as

abbrev chosen_parts : ℕ → List Part → List Message
chosen_parts channel [] = []
chosen_parts channel (p ∷ ps) = cond (eqb p.header.channel channel) p.chosen [] ++ chosen_parts channel ps

abbrev heard_pieces : ℕ → List Piece → List Message
heard_pieces channel ps = again.messages_in (of_channel channel ps)

-- a packet that is left out has no message that is chosen
none_chosen : (p : Part) → IsPartRead p → goes_over p ≡ false → p.chosen ≡ []
none_chosen p r out = empty p.chosen (by (eqb p.header.kind 3) refl)
  where
    empty : (xs : List Message) → length xs ≡ 0 → xs ≡ []
    empty [] e = refl
    empty (x ∷ xs) e = absurd (omega (arith, e))

    no_index : eqb p.header.kind 3 ≡ true → length p.messages ≡ 0
    no_index e = ap length (r.messages ∙ ap (λ (b : Bool). cond b (ok_or_none (messages_in (body_of p.header p.bytes))) []) (ap (λ (k : ℕ). eqb k 0x19) (eqb-true p.header.kind 3 e)))

    or_false : (a b : Bool) → (a || b) ≡ false → b ≡ false
    or_false true b e = absurd cc
    or_false false b e = e

    some_but_none : (eqb (length p.messages) 0 || ltb 0 (length p.chosen)) ≡ false → length p.chosen ≡ 0
    some_but_none e = omega (arith, ltb-false 0 (length p.chosen) (or_false (eqb (length p.messages) 0) (ltb 0 (length p.chosen)) e))

    by : (b : Bool) → eqb p.header.kind 3 ≡ b → length p.chosen ≡ 0
    by true e = omega (arith, r.fewer, no_index e)
    by false e = some_but_none (sym (ap (λ (b : Bool). not b && (eqb (length p.messages) 0 || ltb 0 (length p.chosen))) e) ∙ out)

same_channel : (earlier : List Part) (p : Part) → (piece_behind earlier p).header.channel ≡ p.header.channel
same_channel earlier p = by (loses p)
  where
    by : (b : Bool) → (cond b (header_with p.header p.chosen) p.header).channel ≡ p.header.channel
    by true = refl
    by false = refl

heard_one : (channel : ℕ) (piece : Piece) (ms : List Message) (ps : List Piece) (own : Bool) → eqb piece.header.channel channel ≡ own → packet_messages piece.header piece.bytes ≡ ms
    → heard_pieces channel (piece ∷ ps) ≡ cond own ms [] ++ heard_pieces channel ps
heard_one channel piece ms ps true o is = rw o (ap (λ (l : List Message). l ++ heard_pieces channel ps) is)
heard_one channel piece ms ps false o is = rw o refl

none_or : (b : Bool) (ms : List Message) → ms ≡ [] → cond b ms [] ≡ []
none_or true ms e = e
none_or false ms e = refl

pieces_heard : (channel : ℕ) (earlier ps : List Part) → AreRead ps → heard_pieces channel (pieces_behind earlier ps) ≡ chosen_parts channel ps
pieces_heard channel earlier [] all = refl
pieces_heard channel earlier (p ∷ ps) all = by (goes_over p) refl (pieces_heard channel (p ∷ earlier) ps all.1)
  where
    by : (b : Bool) → goes_over p ≡ b → heard_pieces channel (pieces_behind (p ∷ earlier) ps) ≡ chosen_parts channel ps → heard_pieces channel (cond b (piece_behind earlier p ∷ pieces_behind (p ∷ earlier) ps) (pieces_behind (p ∷ earlier) ps)) ≡ cond (eqb p.header.channel channel) p.chosen [] ++ chosen_parts channel ps
    by true over rest =
        heard_one channel (piece_behind earlier p) p.chosen (pieces_behind (p ∷ earlier) ps) (eqb p.header.channel channel) (ap (λ (c : ℕ). eqb c channel) (same_channel earlier p)) (piece_read earlier p all.0).messages
        ∙ ap (λ (l : List Message). cond (eqb p.header.channel channel) p.chosen [] ++ l) rest
    by false out rest = rest ∙ ap (λ (l : List Message). l ++ chosen_parts channel ps) (sym (none_or (eqb p.header.channel channel) p.chosen (none_chosen p all.0 out)))

parts_chosen : (s : Selection) (file : List ℕ) (channel n : ℕ) (ps : List Found) → chosen_parts channel (parts_behind s file n ps) ≡ chosen_behind s channel n ps
parts_chosen s file channel n [] = refl
parts_chosen s file channel n (p ∷ ps) = ap (λ (l : List Message). cond (eqb p.header.channel channel) (chosen_among s (kind_of p.header) n p.header.channel p.messages) [] ++ l) (parts_chosen s file channel (n + length p.messages) ps)

pub cut_is_read : CutIsRead
cut_is_read s file ps small read =
    let all : AreRead (parts_in s file ps) = parts_read s file 0 ps small (all_read file ps small read) in (
      found_from 0 (cut_pieces s file ps),
      read_again (cut_pieces s file ps) (pieces_whole [] (parts_in s file ps) all),
      λ channel. heard channel 0 (cut_pieces s file ps) ∙ pieces_heard channel [] (parts_in s file ps) all ∙ parts_chosen s file channel 0 ps,
    )
