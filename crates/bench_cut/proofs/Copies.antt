-- A recording from which nothing is left out is copied.
use Rattle.std.proofs.Common.{◌≡◌, ℕ, zero, suc, ◌+◌, ◌-◌, ◌*◌, ◌%◌, ◌<◌, ◌≤◌, Bool, true, false, not, cond, eqb, ltb, ◌&&◌, ◌||◌, List, [], ◌∷◌, ◌++◌, length, take, drop, Option, None, Some, Result, Ok, Err, refl, sym, ap, ◌∙◌, arith}
use Rattle.std.specs.List.{AllByRecursion}
use Rattle.std.proofs.lemmas.Bool.{eqb-true, le-ltb, lt-ltb, ltb-false}
use Rattle.std.proofs.lemmas.List.{drop-drop, length-drop, take-append-drop}
use Rattle.byteorder.specs.Endian.{little_bytes}
use Rattle.ch11_f1.specs.BodyReading.{Message}
use Rattle.ch11_header.specs.declared.header.Header.{Header}
use Rattle.ch11_header.specs.declared.error.HeaderError.{HeaderError}
use Rattle.ch11_header.specs.HeaderBytes.{header_bytes, header_sum, number_at, summed_bytes, word_sum}
use Rattle.ch11_header.specs.HeaderReading.{fields_of, header_in}
use Rattle.ch11_layout.specs.Stamps.{Recorded, kind_of, recorded}
use Rattle.ch11_layout.specs.declared.stamps.StampKind.{StampKind}
use Rattle.ch11_header.specs.Flags.{has_overflow}
use Rattle.ch11_reader.specs.Recording.{Found, packets_from}
use Rattle.ch11_reader.proofs.Joined.{first_of, least_of, nothing_found}
use Rattle.bench_complete.specs.Judging.{AllReadAt, ReadsAt}
use Rattle.bench_complete.specs.Pieces.{bytes_of}
use Rattle.bench_complete.proofs.Alone.{own_packet}
use Rattle.bench_complete.proofs.Sound.{AreBytes, all_read, front}
use Rattle.bench_select.specs.declared.selection.Selection.{Selection}
use Rattle.bench_select.specs.Selecting.{is_all, is_none, selects}
use Rattle.bench_cut.specs.Parts.{Part, chosen_among, goes_over, loses, part_of, parts_behind, parts_in}
use Rattle.bench_cut.specs.Cut.{flags_with, piece_behind, pieces_behind}
use Rattle.bench_cut.specs.Laws.{CopyStays, HaveNoIndex}
use Rattle.bench_cut.specs.Numbers.{is_of, is_owed, left_out, number_behind, went_over}
use Rattle.bench_cut.proofs.Facts.{bytes-drop, bytes-take}
use Rattle.bench_cut.proofs.Headers.{fields_same, is_lawful}

-- ---- all is chosen

none_is : {A : Type 0} (o : Option A) → is_none o ≡ true → o ≡ None
none_is None e = refl
none_is (Some x) e = absurd cc

both : (a b : Bool) → (a && b) ≡ true → (a ≡ true) × (b ≡ true)
both true b e = (refl, e)
both false b e = absurd cc

not_true : (b : Bool) → not b ≡ true → b ≡ false
not_true true e = absurd cc
not_true false e = refl

all_selected : (s : Selection) (n channel : ℕ) (m : Recorded) → is_all s ≡ true → selects s n channel m ≡ true
all_selected s n channel m all =
    let to = both _ (is_none s.to) all in
    let first = both _ (is_none s.from) to.0 in
    let errors = both _ (not s.errors) first.0 in
    let signal = both _ (is_none s.signal) errors.0 in
    let selector = both _ (is_none s.selector) signal.0 in
    let line = both (is_none s.channel) (is_none s.line) selector.0 in
    rw (none_is s.channel line.0, none_is s.line line.1, not_true s.errors errors.1, none_is s.from first.1, none_is s.to to.1, none_is s.selector selector.1, none_is s.signal signal.1) refl

all_chosen : (s : Selection) (kind : StampKind) (n channel : ℕ) (ms : List Message) → is_all s ≡ true → chosen_among s kind n channel ms ≡ ms
all_chosen s kind n channel [] all = refl
all_chosen s kind n channel (m ∷ ms) all =
    ap (λ (b : Bool). cond b (m ∷ chosen_among s kind (n + 1) channel ms) (chosen_among s kind (n + 1) channel ms)) (all_selected s (n + 1) channel (recorded kind m) all)
    ∙ ap (λ (l : List Message). m ∷ l) (all_chosen s kind (n + 1) channel ms all)

-- ---- a header is written as it was read

same_cons : {x y : ℕ} {xs ys : List ℕ} → x ≡ y → xs ≡ ys → x ∷ xs ≡ y ∷ ys
same_cons p q = rw (p, q) refl

header_by : (b0 b1 b2 b3 b4 b5 b6 b7 b8 b9 b10 b11 b12 b13 b14 b15 b16 b17 b18 b19 b20 b21 b22 b23 : ℕ) (rest : List ℕ) → AreBytes (b0 ∷ b1 ∷ b2 ∷ b3 ∷ b4 ∷ b5 ∷ b6 ∷ b7 ∷ b8 ∷ b9 ∷ b10 ∷ b11 ∷ b12 ∷ b13 ∷ b14 ∷ b15 ∷ b16 ∷ b17 ∷ b18 ∷ b19 ∷ b20 ∷ b21 ∷ b22 ∷ b23 ∷ rest) → number_at 0 2 (b0 ∷ b1 ∷ b2 ∷ b3 ∷ b4 ∷ b5 ∷ b6 ∷ b7 ∷ b8 ∷ b9 ∷ b10 ∷ b11 ∷ b12 ∷ b13 ∷ b14 ∷ b15 ∷ b16 ∷ b17 ∷ b18 ∷ b19 ∷ b20 ∷ b21 ∷ b22 ∷ b23 ∷ rest) ≡ 0xEB25 → number_at 22 2 (b0 ∷ b1 ∷ b2 ∷ b3 ∷ b4 ∷ b5 ∷ b6 ∷ b7 ∷ b8 ∷ b9 ∷ b10 ∷ b11 ∷ b12 ∷ b13 ∷ b14 ∷ b15 ∷ b16 ∷ b17 ∷ b18 ∷ b19 ∷ b20 ∷ b21 ∷ b22 ∷ b23 ∷ rest) ≡ header_sum (b0 ∷ b1 ∷ b2 ∷ b3 ∷ b4 ∷ b5 ∷ b6 ∷ b7 ∷ b8 ∷ b9 ∷ b10 ∷ b11 ∷ b12 ∷ b13 ∷ b14 ∷ b15 ∷ b16 ∷ b17 ∷ b18 ∷ b19 ∷ b20 ∷ b21 ∷ b22 ∷ b23 ∷ rest)
    → header_bytes (fields_of (b0 ∷ b1 ∷ b2 ∷ b3 ∷ b4 ∷ b5 ∷ b6 ∷ b7 ∷ b8 ∷ b9 ∷ b10 ∷ b11 ∷ b12 ∷ b13 ∷ b14 ∷ b15 ∷ b16 ∷ b17 ∷ b18 ∷ b19 ∷ b20 ∷ b21 ∷ b22 ∷ b23 ∷ rest)) ≡ b0 ∷ b1 ∷ b2 ∷ b3 ∷ b4 ∷ b5 ∷ b6 ∷ b7 ∷ b8 ∷ b9 ∷ b10 ∷ b11 ∷ b12 ∷ b13 ∷ b14 ∷ b15 ∷ b16 ∷ b17 ∷ b18 ∷ b19 ∷ b20 ∷ b21 ∷ b22 ∷ b23 ∷ []
unfolding header_bytes summed_bytes fields_of header_sum word_sum
header_by b0 b1 b2 b3 b4 b5 b6 b7 b8 b9 b10 b11 b12 b13 b14 b15 b16 b17 b18 b19 b20 b21 b22 b23 rest small sync sum =
    let summed : summed_bytes (fields_of (b0 ∷ b1 ∷ b2 ∷ b3 ∷ b4 ∷ b5 ∷ b6 ∷ b7 ∷ b8 ∷ b9 ∷ b10 ∷ b11 ∷ b12 ∷ b13 ∷ b14 ∷ b15 ∷ b16 ∷ b17 ∷ b18 ∷ b19 ∷ b20 ∷ b21 ∷ b22 ∷ b23 ∷ rest)) ≡ b0 ∷ b1 ∷ b2 ∷ b3 ∷ b4 ∷ b5 ∷ b6 ∷ b7 ∷ b8 ∷ b9 ∷ b10 ∷ b11 ∷ b12 ∷ b13 ∷ b14 ∷ b15 ∷ b16 ∷ b17 ∷ b18 ∷ b19 ∷ b20 ∷ b21 ∷ [] = same_cons (omega (arith, sync, small 0, small 1)) (same_cons (omega (arith, sync, small 0, small 1)) (same_cons (omega (arith, small 2, small 3)) (same_cons (omega (arith, small 2, small 3)) (same_cons (omega (arith, small 4, small 5, small 6, small 7)) (same_cons (omega (arith, small 4, small 5, small 6, small 7)) (same_cons (omega (arith, small 4, small 5, small 6, small 7)) (same_cons (omega (arith, small 4, small 5, small 6, small 7)) (same_cons (omega (arith, small 8, small 9, small 10, small 11)) (same_cons (omega (arith, small 8, small 9, small 10, small 11)) (same_cons (omega (arith, small 8, small 9, small 10, small 11)) (same_cons (omega (arith, small 8, small 9, small 10, small 11)) (same_cons refl (same_cons refl (same_cons refl (same_cons refl (same_cons (omega (arith, small 16, small 17, small 18, small 19, small 20, small 21)) (same_cons (omega (arith, small 16, small 17, small 18, small 19, small 20, small 21)) (same_cons (omega (arith, small 16, small 17, small 18, small 19, small 20, small 21)) (same_cons (omega (arith, small 16, small 17, small 18, small 19, small 20, small 21)) (same_cons (omega (arith, small 16, small 17, small 18, small 19, small 20, small 21)) (same_cons (omega (arith, small 16, small 17, small 18, small 19, small 20, small 21)) (refl)))))))))))))))))))))) in
    let last : little_bytes 2 (b22 + 256 * (b23 + 256 * 0)) ≡ b22 ∷ b23 ∷ [] = same_cons (omega (arith, small 22, small 23)) (same_cons (omega (arith, small 22, small 23)) refl) in
    ap (λ (l : List ℕ). l ++ little_bytes 2 (header_sum l)) summed ∙ ap (λ (n : ℕ). (b0 ∷ b1 ∷ b2 ∷ b3 ∷ b4 ∷ b5 ∷ b6 ∷ b7 ∷ b8 ∷ b9 ∷ b10 ∷ b11 ∷ b12 ∷ b13 ∷ b14 ∷ b15 ∷ b16 ∷ b17 ∷ b18 ∷ b19 ∷ b20 ∷ b21 ∷ []) ++ little_bytes 2 n) (sym sum) ∙ ap (λ (l : List ℕ). (b0 ∷ b1 ∷ b2 ∷ b3 ∷ b4 ∷ b5 ∷ b6 ∷ b7 ∷ b8 ∷ b9 ∷ b10 ∷ b11 ∷ b12 ∷ b13 ∷ b14 ∷ b15 ∷ b16 ∷ b17 ∷ b18 ∷ b19 ∷ b20 ∷ b21 ∷ []) ++ l) last

header_at : (bytes : List ℕ) → 24 ≤ length bytes → AreBytes bytes → number_at 0 2 bytes ≡ 0xEB25 → number_at 22 2 bytes ≡ header_sum bytes → header_bytes (fields_of bytes) ≡ take 24 bytes
header_at (b0 ∷ b1 ∷ b2 ∷ b3 ∷ b4 ∷ b5 ∷ b6 ∷ b7 ∷ b8 ∷ b9 ∷ b10 ∷ b11 ∷ b12 ∷ b13 ∷ b14 ∷ b15 ∷ b16 ∷ b17 ∷ b18 ∷ b19 ∷ b20 ∷ b21 ∷ b22 ∷ b23 ∷ rest) long small sync sum = header_by b0 b1 b2 b3 b4 b5 b6 b7 b8 b9 b10 b11 b12 b13 b14 b15 b16 b17 b18 b19 b20 b21 b22 b23 rest small sync sum
header_at bytes long small sync sum = absurd (omega (arith, long))

checks_of : (h : Header) (short sync sum : Bool) (e f g : HeaderError) (others : Result Header HeaderError)
    → cond short (Err e) (cond (not sync) (Err f) (cond (not sum) (Err g) others)) ≡ Ok h → (short ≡ false) × (sync ≡ true) × (sum ≡ true)
checks_of h true sync sum e f g others is = absurd cc
checks_of h false false sum e f g others is = absurd cc
checks_of h false true false e f g others is = absurd cc
checks_of h false true true e f g others is = (refl, refl, refl)

header_again : (bytes : List ℕ) (h : Header) → AreBytes bytes → header_in bytes ≡ Ok h → header_bytes h ≡ take 24 bytes
unfolding header_in
header_again bytes h small is =
    let c = checks_of h (ltb (length bytes) 24) (eqb (number_at 0 2 bytes) 0xEB25) (eqb (number_at 22 2 bytes) (header_sum bytes)) _ _ _ _ is in
    ap header_bytes (sym (fields_same bytes h is)) ∙ header_at bytes (ltb-false (length bytes) 24 c.0) small (eqb-true (number_at 0 2 bytes) 0xEB25 c.1) (eqb-true (number_at 22 2 bytes) (header_sum bytes) c.2)

-- ---- a file is its packets, one behind the other

abbrev bytes_at : List ℕ → List Found → List ℕ
bytes_at file [] = []
bytes_at file (p ∷ ps) = take p.header.packet_length (drop p.offset file) ++ bytes_at file ps

joined : (most offset : ℕ) (file bytes : List ℕ) (ps : List Found) → length bytes ≤ most → drop offset file ≡ bytes → packets_from most offset bytes ≡ Ok ps → bytes_at file ps ≡ bytes
joined most offset file [] ps few behind is = ap (bytes_at file) (nothing_found most offset ps is)
joined zero offset file (b ∷ bs) ps few behind is = absurd (omega (arith, few))
joined (suc most) offset file (b ∷ bs) ps few behind is =
    let f = first_of most offset b bs ps is in
    let n : ℕ = f.header.packet_length in
    let least = least_of (b ∷ bs) f.header f.is in
    let later : drop (offset + n) file ≡ drop n (b ∷ bs) = sym (drop-drop n offset file) ∙ ap (drop n) behind in
    let rest = joined most (offset + n) file (drop n (b ∷ bs)) f.others (omega (arith, few, least.0, length-drop n (b ∷ bs))) later f.behind in
    ap (bytes_at file) f.all ∙ ap (λ (l : List ℕ). take n l ++ bytes_at file f.others) behind ∙ ap (λ (l : List ℕ). take n (b ∷ bs) ++ l) rest ∙ take-append-drop n (b ∷ bs)

-- ---- nothing is left out

abbrev IsOver : Part → Type 0
IsOver p = goes_over p ≡ true

over_number : (channel : ℕ) (earlier : List Part) → AllByRecursion IsOver earlier → left_out channel earlier ≡ 0
over_number channel [] all = refl
over_number channel (p ∷ earlier) all = rw all.0 (omega (arith, none (is_of channel p) (went_over channel earlier), over_number channel earlier all.1))
  where
    none : (a b : Bool) → ◌≡◌ {A = ℕ} (cond (a && false && b) 1 0) 0
    none true b = refl
    none false b = refl

over_owed : (channel : ℕ) (earlier : List Part) → AllByRecursion IsOver earlier → is_owed channel earlier ≡ false
over_owed channel [] all = refl
over_owed channel (p ∷ earlier) all = by (is_of channel p) refl (over_owed channel earlier all.1)
  where
    by : (b : Bool) → is_of channel p ≡ b → is_owed channel earlier ≡ false → cond b (not (goes_over p) && (has_overflow p.header || is_owed channel earlier)) (is_owed channel earlier) ≡ false
    by true e none = rw all.0 refl
    by false e none = none

-- a packet of which all is chosen
pub record IsCopied (p : Part) : Type 0 where
  pub over : goes_over p ≡ true
  pub whole : loses p ≡ false
  pub head : header_bytes p.header ≡ take 24 p.bytes
  pub byte : p.header.sequence < 256

same_number : (n : ℕ) → n < 256 → (n + (256 - 0 % 256)) % 256 ≡ n
same_number n small = omega (arith, small)

copied_bytes : (earlier : List Part) (p : Part) → AllByRecursion IsOver earlier → IsCopied p → (piece_behind earlier p).bytes ≡ p.bytes
copied_bytes earlier p all c =
    let number : number_behind earlier p ≡ p.header.sequence = ap (λ (n : ℕ). (p.header.sequence + (256 - n % 256)) % 256) (over_number p.header.channel earlier all) ∙ same_number p.header.sequence c.byte in
    let owed : is_owed p.header.channel earlier ≡ false = over_owed p.header.channel earlier all in
    rw c.whole (
    ap (λ (n : ℕ). header_bytes (record p.header { sequence = n; flags = flags_with (is_owed p.header.channel earlier) p.header.flags }) ++ drop 24 p.bytes) number
    ∙ ap (λ (b : Bool). header_bytes (record p.header { sequence = p.header.sequence; flags = flags_with b p.header.flags }) ++ drop 24 p.bytes) owed
    ∙ ap (λ (l : List ℕ). l ++ drop 24 p.bytes) c.head
    ∙ take-append-drop 24 p.bytes
    )

abbrev bytes_in : List Part → List ℕ
bytes_in [] = []
bytes_in (p ∷ ps) = p.bytes ++ bytes_in ps

copied_all : (earlier ps : List Part) → AllByRecursion IsOver earlier → AllByRecursion IsCopied ps → bytes_of (pieces_behind earlier ps) ≡ bytes_in ps
copied_all earlier [] all are = refl
copied_all earlier (p ∷ ps) all are =
    ap (λ (b : Bool). bytes_of (cond b (piece_behind earlier p ∷ pieces_behind (p ∷ earlier) ps) (pieces_behind (p ∷ earlier) ps))) are.0.over
    ∙ ap (λ (l : List ℕ). l ++ bytes_of (pieces_behind (p ∷ earlier) ps)) (copied_bytes earlier p all are.0)
    ∙ ap (λ (l : List ℕ). p.bytes ++ l) (copied_all (p ∷ earlier) ps (are.0.over, all) are.1)

parts_bytes : (s : Selection) (file : List ℕ) (n : ℕ) (ps : List Found) → bytes_in (parts_behind s file n ps) ≡ bytes_at file ps
parts_bytes s file n [] = refl
parts_bytes s file n (p ∷ ps) = ap (λ (l : List ℕ). take p.header.packet_length (drop p.offset file) ++ l) (parts_bytes s file (n + length p.messages) ps)

or_true : (b : Bool) → (b || true) ≡ true
or_true true = refl
or_true false = refl

some_or_none : (n : ℕ) → (eqb n 0 || ltb 0 n) ≡ true
some_or_none zero = refl
some_or_none (suc n) = ap (λ (b : Bool). eqb (suc n) 0 || b) (lt-ltb 0 (suc n) (omega arith)) ∙ or_true (eqb (suc n) 0)

part_copied : (s : Selection) (file : List ℕ) (n : ℕ) (p : Found) → AreBytes file → ReadsAt file p → is_all s ≡ true → eqb p.header.kind 3 ≡ false → IsCopied (part_of s file n p)
part_copied s file n p small r all other =
    let bytes : List ℕ = take p.header.packet_length (drop p.offset file) in
    let are : AreBytes bytes = bytes-take p.header.packet_length (drop p.offset file) (bytes-drop p.offset file small) in
    let chosen : chosen_among s (kind_of p.header) n p.header.channel p.messages ≡ p.messages = all_chosen s (kind_of p.header) n p.header.channel p.messages all in
    let head : header_in bytes ≡ Ok p.header = (front bytes p.header (own_packet (drop p.offset file) p.header r.packet)).header in
    record {
      over = ap (λ (b : Bool). not b && (eqb (length p.messages) 0 || ltb 0 (length (chosen_among s (kind_of p.header) n p.header.channel p.messages)))) other
          ∙ ap (λ (ms : List Message). eqb (length p.messages) 0 || ltb 0 (length ms)) chosen ∙ some_or_none (length p.messages);
      whole = ap (λ (ms : List Message). ltb (length ms) (length p.messages)) chosen ∙ le-ltb (length p.messages) (length p.messages) (omega arith);
      head = header_again bytes p.header are head;
      byte = (is_lawful bytes p.header are head).fits.sequence;
    }

parts_copied : (s : Selection) (file : List ℕ) (n : ℕ) (ps : List Found) → AreBytes file → AllReadAt file ps → is_all s ≡ true → HaveNoIndex ps → AllByRecursion IsCopied (parts_behind s file n ps)
parts_copied s file n [] small read all other = tt
parts_copied s file n (p ∷ ps) small read all other = (part_copied s file n p small read.0 all other.0, parts_copied s file (n + length p.messages) ps small read.1 all other.1)

pub copy_stays : CopyStays
copy_stays s file ps small read all other =
    copied_all [] (parts_in s file ps) tt (parts_copied s file 0 ps small (all_read file ps small read) all other)
    ∙ parts_bytes s file 0 ps
    ∙ joined (length file) 0 file file ps (omega arith) refl read
